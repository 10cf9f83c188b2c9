use Rattle.rlp_reading.specs.Views.View.{view_of}
use Rattle.rlp_reading.proofs.Readings.{array_whole, one_reading}
use Rattle.rlp.proofs.laws.reading.arrays_are_read.Goals as goal

pub returns : goal.returns
returns c = λ n. one_reading _ (view_of c.args.bytes.now) (array_whole n)
