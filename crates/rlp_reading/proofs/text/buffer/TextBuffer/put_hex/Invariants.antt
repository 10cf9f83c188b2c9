use Rattle.std.proofs.Common.{◌≡◌, ◌++◌, length, List, ℕ}
use Rattle.std.specs.Fmt.{IsFlush}
use Rattle.hex.specs.Hex.{encode_lower}
use Rattle.rlp_reading.specs.Views.Buffered.{HasPut}
use Rattle.rlp_reading.proofs.text.buffer.TextBuffer.put_hex.Given as goal

-- the digits of some bytes are put, and the others are the rest
abbrev pub invariant-loop-rest : goal.invariant-loop-rest
invariant-loop-rest g l = record {
  done : List ℕ;
  all : done ++ l.rest ≡ l.bytes;
  put : IsFlush l.initial.f → HasPut g.W.Write.write_str_gives l.initial.f l.initial.self (encode_lower done) l.f l.self;
}

abbrev pub decreases-loop-rest : goal.decreases-loop-rest
decreases-loop-rest g l = length l.rest
