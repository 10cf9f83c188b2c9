use Rattle.std.proofs.Common.{arith}
use Rattle.rlp_write.proofs.Streams.Closings.{brought_next}
use Rattle.rlp_write.proofs.buffer.moving.move_up.Goals as goal

pub bytes-preserved : goal.bytes-preserved
bytes-preserved g c =
    brought_next _ _ _ _ _ _ _ _ (omega (arith, c.bytes-test.true)) (omega arith) c.bytes.auto.bytes
    (omega (arith, c.requires.whole, c.bytes-test.true)) (omega (arith, c.bytes-test.true)) c.bytes.invariant
