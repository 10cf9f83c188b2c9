use Rattle.std.proofs.Common.{refl}
use Rattle.rlp_show.proofs.serving.refuse.Goals as goal

pub returns : goal.returns
returns g c = (refl, (c.print-printed.result, c.print-printed.ensures))
