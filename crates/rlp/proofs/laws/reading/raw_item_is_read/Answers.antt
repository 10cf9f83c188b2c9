use Rattle.rlp_reading.proofs.Readings.{one_reading, raw_whole}
use Rattle.rlp.proofs.laws.reading.raw_item_is_read.Goals as goal

pub returns : goal.returns
returns c = one_reading _ _ raw_whole
