use Rattle.std.proofs.Common.{arith}
use Rattle.rlp_format.proofs.Lemmas.Digits.{bytes_held}
use Rattle.rlp_reading.proofs.Readings.{item_one}
use Rattle.rlp.proofs.laws.reading.field_is_read.Goals as goal

pub returns : goal.returns
returns g c =
    let held = bytes_held c.args.bytes.now c.type_inv.bytes in
    record {
      lenient = λ law i. item_one _ g.T.Decodable.reading law _ i held (omega arith);
      strict = λ law i. item_one _ g.T.Decodable.reading law _ i held (omega arith);
    }
