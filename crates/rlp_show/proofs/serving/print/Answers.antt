use Rattle.std.proofs.Common.{◌∙◌, inl, inr, refl, ap}
use Rattle.rlp_lines.specs.Status.{status_of}
use Rattle.rlp_show.proofs.serving.print.Goals as goal

pub returns-in-Ok : goal.returns-in-Ok
returns-in-Ok g c = inl (refl, rw c.as_bytes.ensures.value at c.in-Ok.ensures.ok, c.in-Ok.ensures.kept ∙ c.requires, c.in-Ok.ensures.flushed)

pub returns-in-Err : goal.returns-in-Err
returns-in-Err g c = inr (
  c.status.ensures ∙ ap status_of c.in-Err.ensures.fault,
  rw c.as_bytes.ensures.value at c.in-Err.ensures.part,
  c.in-Err.ensures.failed,
)
