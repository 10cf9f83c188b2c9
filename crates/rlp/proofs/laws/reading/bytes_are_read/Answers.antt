use Rattle.rlp_reading.specs.Views.View.{view_of}
use Rattle.rlp_reading.proofs.Readings.{bytes_whole, one_reading}
use Rattle.rlp.proofs.laws.reading.bytes_are_read.Goals as goal

pub returns : goal.returns
returns c = one_reading _ (view_of c.args.bytes.now) bytes_whole
