use Rattle.std.proofs.Common.{◌≡◌, IfOk, sym, subst, ◌∷◌}
use Rattle.rlp_records.specs.{Keccak.keccak256, declared.hash.Hash.Hash}
use Rattle.rlp.specs.{Format.Encoding.encoding, Format.Encoding.list_of}
use Rattle.rlp_show.specs.Transactions.{signing_hash}
use Rattle.rlp_show.proofs.transactions.signing_hash_of.Goals as goal

pub returns : goal.returns
unfolding signing_hash
returns g c =
    subst (λ xs. IfOk c.signing_hash.result (λ (h : Hash). h.0 ≡ keccak256 (g.T.Tagged.TAG ∷ encoding (list_of xs))))
    (sym (g.met.T.Payload.laws.told.written c.args.payload.now)) c.signing_hash.ensures.hash
