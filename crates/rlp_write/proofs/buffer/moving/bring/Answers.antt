use Rattle.std.proofs.Common.{arith}
use Rattle.rlp_write.proofs.Streams.Closings.{moved_up}
use Rattle.rlp_write.proofs.buffer.moving.bring.Goals as goal

pub returns-in-1 : goal.returns-in-1
returns-in-1 c =
    moved_up _ _ _ _ _ _ 1 (omega (arith, c.in-1.is)) c.requires.within (omega (arith, c.in-1.is)) c.move_up.ensures

pub returns-in-2 : goal.returns-in-2
returns-in-2 c =
    moved_up _ _ _ _ _ _ 2 (omega (arith, c.in-2.is)) c.requires.within (omega (arith, c.in-2.is)) c.move_up-in-2.ensures
