use Rattle.std.proofs.Common.{◌≡◌, IfOk, sym, subst}
use Rattle.rlp.specs.Format.Encoding.{encoding}
use Rattle.rlp_show.specs.Records.{written}
use Rattle.rlp_show.proofs.records.written.Goals as goal

pub returns : goal.returns
unfolding written
returns g c = subst (λ x. IfOk c.encode.result (λ b. b.items ≡ encoding x)) (sym (g.met.T.RoundTrip.round_trip.told.written c.args.value.now)) c.encode.ensures.bytes
