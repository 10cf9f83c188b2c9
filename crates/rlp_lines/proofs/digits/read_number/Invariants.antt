use Rattle.std.proofs.Common.{◌≡◌, ◌<◌, ◌^◌, length}
use Rattle.rlp_lines.specs.Digits.{number_in}
use Rattle.rlp_lines.proofs.DigitLemmas.{number_after}
use Rattle.rlp_lines.proofs.digits.read_number.Given as goal

-- the digits that are left decide, after the number so far
abbrev pub invariant-loop-byte : goal.invariant-loop-byte
invariant-loop-byte l = record {
  decide : number_in l.text ≡ number_after l.value l.rest;
  small : l.value < 2 ^ 64;
}

abbrev pub decreases-loop-byte : goal.decreases-loop-byte
decreases-loop-byte l = length l.rest
