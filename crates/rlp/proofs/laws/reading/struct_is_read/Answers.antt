use Rattle.rlp_reading.specs.Form.{struct_reading}
use Rattle.rlp_reading.proofs.Readings.{one_answer}
use Rattle.rlp.proofs.laws.reading.struct_is_read.Goals as goal

pub returns : goal.returns
returns g c = one_answer (struct_reading g.F.DecodeFields.reading) c.args.rlp.now
