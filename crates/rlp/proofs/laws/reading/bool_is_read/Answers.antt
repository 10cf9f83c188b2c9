use Rattle.rlp_reading.specs.Views.View.{view_of}
use Rattle.rlp_reading.proofs.Readings.{one_reading, truth_whole}
use Rattle.rlp.proofs.laws.reading.bool_is_read.Goals as goal

pub returns : goal.returns
returns c = one_reading _ (view_of c.args.bytes.now) truth_whole
