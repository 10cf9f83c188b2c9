use Rattle.std.proofs.Common.{◌≡◌, ◌*◌, ◌++◌, drop, take}
use Rattle.hex.specs.Hex.{encode_with, lower_digits}
use Rattle.rlp_format.proofs.hex_digits.put_digits.Given as goal

-- the digits of the bytes so far are written, and the digits of the other bytes are left
abbrev pub invariant-loop-i : goal.invariant-loop-i
invariant-loop-i l = take (2 * l.i) l.digits ++ encode_with lower_digits (drop l.i l.bytes) ≡ encode_with lower_digits l.bytes
