use Rattle.std.proofs.Common.{◌∙◌, arith}
use Rattle.hex.specs.Hex.{lower_digits}
use Rattle.hex.proofs.Pairs.{encode_done, encode_step}
use Rattle.rlp_format.proofs.HexDigits.{digit_is}
use Rattle.rlp_format.proofs.hex_digits.put_digits.Goals as goal

pub loop-i-preserved : goal.loop-i-preserved
loop-i-preserved c =
    encode_step lower_digits _ _ _ _ _ (omega arith) (omega arith) (c.digit_char.ensures ∙ digit_is _ (omega arith)) (c.digit_char-in-loop-i.ensures ∙ digit_is _ (omega arith))
    c.loop-i.invariant

pub returns : goal.returns
returns c = encode_done lower_digits c.args.bytes.now c.loop-i.digits c.loop-i.i (omega arith) (omega arith) c.loop-i.invariant
