use Rattle.std.proofs.Common.{arith}
use Rattle.rlp_write.proofs.Streams.Fields.{appended_more}
use Rattle.rlp_write.proofs.structs.slices.FlattenedAppendFields.append_fields.Goals as goal

pub loop-value-preserved : goal.loop-value-preserved
loop-value-preserved g c =
    appended_more g.T.AppendFields.items g.T.AppendFields.fit c.args.self.now.0.now c.loop-value.value-index c.value-item.result c.value-item.result
    c.args.s.now c.loop-value.s c.append_fields.new.s c.loop-value-test.true c.value-item.is c.loop-value.invariant c.in_ok-append_fields.ensures.ok
    (omega arith) c.in_ok-append_fields.ensures.fits
