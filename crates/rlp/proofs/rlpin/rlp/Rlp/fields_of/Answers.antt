use Rattle.std.proofs.Common.{sym}
use Rattle.rlp_reading.proofs.Lemmas.Numbered.{counted_told}
use Rattle.rlp.proofs.rlpin.rlp.Rlp.fields_of.Goals as goal

pub returns-clause-past : goal.returns-clause-past
returns-clause-past c = c.over.ensures.past (counted_told c.args.self.now _ (sym c.in_ok-item_count.ensures))
