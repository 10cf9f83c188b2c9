use Rattle.std.proofs.Common.{[], ◌∷◌, arith}
use Rattle.rlp_write.proofs.Streams.Fields.{appended_more}
use Rattle.rlp_write.proofs.structs.slices.EachAppendFields.append_fields.Goals as goal

pub loop-value-preserved : goal.loop-value-preserved
loop-value-preserved g c =
    appended_more (λ v. g.T.Encodable.item v ∷ []) g.T.Encodable.fits c.args.self.now.0.now c.loop-value.value-index c.value-item.result c.value-item.result
    c.args.s.now c.loop-value.s c.try_append.new.self c.loop-value-test.true c.value-item.is c.loop-value.invariant c.in_ok-try_append.ensures.ok
    (omega arith) c.in_ok-try_append.ensures.fits
