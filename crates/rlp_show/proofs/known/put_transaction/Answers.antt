use Rattle.std.proofs.Common.{refl, sym}
use Rattle.rlp_show.specs.Transactions.{any_transaction_display}
use Rattle.rlp_show.proofs.LineLemmas.{other_fault, put_as, unsigned_faulty}
use Rattle.rlp_show.proofs.known.put_transaction.Goals as goal

pub returns-in_default : goal.returns-in_default
returns-in_default c =
    put_as _ _ _ _ _ _ _ _ _ (sym (unsigned_faulty c.args.given.now.bytes.now _ (other_fault _ _ _ c.in-Err.ensures.fault c.in_default.not-OutOfMemory)))
    (c.put_alone.ensures any_transaction_display.shown (λ x. refl))
