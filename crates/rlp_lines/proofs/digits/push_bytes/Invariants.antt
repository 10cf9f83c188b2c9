use Rattle.std.proofs.Common.{◌≡◌, ◌++◌, ℕ, drop, length, string_bytes, take}
use Rattle.hex.specs.Hex.{encode_lower}
use Rattle.rlp_lines.proofs.digits.push_bytes.Given as goal

-- the digits of the first bytes are printed, and the rest are left
abbrev pub invariant-loop-rest : goal.invariant-loop-rest
invariant-loop-rest l = record {
  done : ℕ;
  printed : string_bytes l.out ≡ string_bytes l.fn.out ++ encode_lower (take done l.bytes);
  left : l.rest ≡ drop done l.bytes;
}

abbrev pub decreases-loop-rest : goal.decreases-loop-rest
decreases-loop-rest l = length l.rest
