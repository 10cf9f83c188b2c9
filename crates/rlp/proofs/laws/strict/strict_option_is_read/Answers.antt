use Rattle.std.proofs.Common.{arith}
use Rattle.rlp_format.proofs.Lemmas.Digits.{bytes_held}
use Rattle.rlp_reading.proofs.Readings.{option_one}
use Rattle.rlp.proofs.laws.strict.strict_option_is_read.Goals as goal

pub returns : goal.returns
returns g c = λ law. option_one _ g.T.Decodable.reading law _ (bytes_held _ c.type_inv.bytes) (omega arith)
