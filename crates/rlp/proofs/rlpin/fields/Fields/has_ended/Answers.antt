use Rattle.std.proofs.Common.{◌==◌, length, ap, sym, ◌∙◌}
use Rattle.rlp_reading.proofs.Lemmas.Numbered.{no_bytes}
use Rattle.rlp.proofs.Readers.{no_bytes_left, none_left}
use Rattle.rlp.proofs.rlpin.fields.Fields.has_ended.Goals as goal

pub returns : goal.returns
returns c =
    rw (sym c.self.view_is) (
      λ is. none_left _ _ (sym c.rest.ensures ∙ no_bytes c.rest.result.now (sym is ∙ c.is_empty.ensures)),
      λ none. c.is_empty.ensures ∙ ap (λ b. length b == 0) (c.rest.ensures ∙ no_bytes_left _ _ none.0 none.1),
    )
