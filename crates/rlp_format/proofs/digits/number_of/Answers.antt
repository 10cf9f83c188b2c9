use Rattle.std.proofs.Common.{arith}
use Rattle.rlp_format.proofs.{Lemmas.Digits.bytes_held, Format.DigitBytes.number_below}
use Rattle.rlp_format.proofs.digits.number_of.Goals as goal

pub overflow_mul-number : goal.overflow_mul-number
overflow_mul-number c =
    let below = number_below c.args.digits.now c.loop-digit.digit-index (bytes_held c.args.digits.now c.type_inv.digits) (omega arith) in
    omega (arith, below)

pub overflow_add-number : goal.overflow_add-number
overflow_add-number c =
    let below = number_below c.args.digits.now c.loop-digit.digit-index (bytes_held c.args.digits.now c.type_inv.digits) (omega arith) in
    omega (arith, below, c.type_inv.digits c.loop-digit.digit-index)
