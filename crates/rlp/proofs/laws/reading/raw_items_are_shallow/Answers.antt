use Rattle.rlp_reading.specs.Values.RawItem.{deepest_raw_item}
use Rattle.rlp_reading.proofs.{Lemmas.Items.item_within-encoding, RawLaws.shallow_within}
use Rattle.rlp.proofs.laws.reading.raw_items_are_shallow.Goals as goal

pub returns : goal.returns
returns c = record { encoded = item_within-encoding deepest_raw_item; depth = shallow_within deepest_raw_item }
