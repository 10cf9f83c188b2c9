use Rattle.std.proofs.Common.{refl}
use Rattle.rlp_show.specs.ItemDisplays.{node_display}
use Rattle.rlp_show.specs.declared.kind.Kind.TheVariants as kind
use Rattle.rlp_show.proofs.laws.only_nodes_are_shown.Goals as goal

pub returns : goal.returns
returns c = λ bytes v is ok. c.only_encodings_are_shown.ensures kind.Node node_display.shown bytes v (λ b. refl) is ok
