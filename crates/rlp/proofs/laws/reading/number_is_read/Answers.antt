use Rattle.rlp_reading.specs.Views.View.{view_of}
use Rattle.rlp_reading.proofs.Readings.{number_whole, one_reading}
use Rattle.rlp.proofs.laws.reading.number_is_read.Goals as goal

pub returns : goal.returns
returns c = λ width. one_reading _ (view_of c.args.bytes.now) (number_whole width)
