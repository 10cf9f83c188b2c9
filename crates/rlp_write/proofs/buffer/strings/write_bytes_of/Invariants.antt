use Rattle.std.proofs.Common.{◌≡◌, ◌++◌}
use Rattle.rlp_write.proofs.buffer.strings.write_bytes_of.Given as goal

abbrev pub invariant-loop-byte : goal.invariant-loop-byte
invariant-loop-byte g l = record { items : l.buffer.items ≡ l.initial.buffer.items ++ l.yielded; moved : l.buffer.moved ≡ l.fn.buffer.moved }
