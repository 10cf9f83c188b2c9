use Rattle.rlp_show.specs.Messages.{receipt69_display}
use Rattle.rlp_show.proofs.messages.Receipt69Show.show.Goals as goal

pub returns : goal.returns
unfolding receipt69_display
returns g c = rw c.number-kind.ensures at c.show.ensures
