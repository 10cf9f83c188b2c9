use Rattle.std.proofs.Common.{arith}
use Rattle.rlp_format.proofs.Lemmas.Digits.{bytes_held}
use Rattle.rlp_reading.specs.Form.{option_reading}
use Rattle.rlp_reading.proofs.Readings.{option_one}
use Rattle.rlp.proofs.laws.reading.option_of_option_is_read.Goals as goal

pub returns : goal.returns
returns g c = λ law.
    option_one _ (option_reading g.T.Decodable.reading) (λ v bytes short. option_one _ g.T.Decodable.reading law v bytes short)
    _ (bytes_held _ c.type_inv.bytes) (omega arith)
