use Rattle.std.proofs.Common.{◌-◌}
use Rattle.rlp_write.proofs.Streams.Closings.{Brought}
use Rattle.rlp_write.proofs.buffer.moving.move_up.Given as goal

abbrev pub invariant-bytes : goal.invariant-bytes
invariant-bytes g l = Brought l.fn.bytes l.bytes g.row.D (l.len - l.i) l.i
