use Rattle.rlp_reading.proofs.Readings.{bytes_whole, one_reading, option_whole}
use Rattle.rlp.proofs.laws.reading.option_of_bytes_is_read.Goals as goal

pub returns : goal.returns
returns c = one_reading _ _ (option_whole _ bytes_whole)
