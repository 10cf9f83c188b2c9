use Rattle.rlp_reading.proofs.Readings.{one_answer}
use Rattle.rlp.proofs.laws.reading.one_reading.Goals as goal

pub returns : goal.returns
returns g c = one_answer g.T.Decodable.reading c.args.rlp.now
