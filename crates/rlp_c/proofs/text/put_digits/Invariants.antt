use Rattle.std.proofs.Common.{◌++◌, codes, take}
use Rattle.hex.specs.Hex.{encode_lower}
use Rattle.rlp_c.specs.Written.{IsPut}
use Rattle.rlp_c.proofs.text.put_digits.Given as goal

-- the digits of the first bytes are written
abbrev pub invariant-loop-byte : goal.invariant-loop-byte
invariant-loop-byte l = IsPut l.fn.out l.at (codes "\"0x" ++ encode_lower (take l.byte-index l.string)) l.out l.place
