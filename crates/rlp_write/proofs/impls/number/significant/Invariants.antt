use Rattle.std.proofs.Common.{◌≡◌, length}
use Rattle.std.specs.Int.Digits.{number_from_digits}
use Rattle.rlp_write.proofs.impls.number.significant.Given as goal

abbrev pub invariant-loop-digits : goal.invariant-loop-digits
invariant-loop-digits l = number_from_digits 256 l.digits ≡ number_from_digits 256 l.bytes

abbrev pub decreases-loop-digits : goal.decreases-loop-digits
decreases-loop-digits l = length l.digits
