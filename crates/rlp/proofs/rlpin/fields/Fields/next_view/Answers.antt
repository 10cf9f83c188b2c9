use Rattle.std.proofs.Common.{ap, ◌∙◌}
use Rattle.rlp.specs.Left.{after_next}
use Rattle.rlp.proofs.Readers.{one_taken}
use Rattle.rlp.proofs.rlpin.fields.Fields.next_view.Goals as goal

pub returns-clause-next : goal.returns-clause-next
returns-clause-next c = one_taken _ _ _ _ c.in_ok-framed.ensures.parts c.in_ok-framed.ensures.whole ∙ ap after_next c.self.view_is
