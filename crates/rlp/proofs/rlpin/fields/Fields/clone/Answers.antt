use Rattle.std.proofs.Common.{ap, ◌∙◌}
use Rattle.rlp.proofs.Readers.{left_in}
use Rattle.rlp.proofs.rlpin.fields.Fields.clone.Goals as goal

pub returns : goal.returns
returns c = c.over_items.ensures.exact ∙ ap (left_in _) c.rest.ensures ∙ c.self.view_is
