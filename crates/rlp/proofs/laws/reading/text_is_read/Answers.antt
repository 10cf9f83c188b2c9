use Rattle.rlp_reading.specs.Views.View.{view_of}
use Rattle.rlp_reading.proofs.Readings.{one_reading, text_whole}
use Rattle.rlp.proofs.laws.reading.text_is_read.Goals as goal

pub returns : goal.returns
returns c = one_reading _ (view_of c.args.bytes.now) text_whole
