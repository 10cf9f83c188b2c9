use Rattle.std.proofs.Common.{◌∙◌, refl, sym}
use Rattle.rlp_show.proofs.serving.serve_request.Goals as goal

pub returns-in-Help : goal.returns-in-Help
returns-in-Help g c = rw (sym c.of.ensures ∙ c.in-Help.is) (c.print.ensures, refl, refl)

pub returns-in-Version : goal.returns-in-Version
returns-in-Version g c = rw (sym c.of.ensures ∙ c.in-Version.is) (c.print-in-Version.ensures, refl, refl)

pub returns-in-Lines : goal.returns-in-Lines
returns-in-Lines g c = rw (sym c.of.ensures ∙ c.in-Lines.is) (
  record { outcome = c.run.result; leaves = c.run.ensures.leaves; faulty = c.run.ensures.faulty; ended = c.exit_status.ensures },
  refl,
)

pub returns-in-Record : goal.returns-in-Record
returns-in-Record g c = rw (sym c.of.ensures ∙ c.in-Record.is, sym c.last_word.ensures) (
  record {
    outcome = c.answer_text.result;
    leaves = rw c.as_bytes-word.ensures.value at c.answer_text.ensures;
    ended = c.exit_status-in-Record.ensures;
  },
  refl,
  refl,
)

pub returns-in-Unknown : goal.returns-in-Unknown
returns-in-Unknown g c = rw (sym c.of.ensures ∙ c.in-Unknown.is) (c.refuse.ensures, refl, refl)
