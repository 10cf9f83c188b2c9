use Rattle.rlp_write.proofs.Streams.Fields.{Appended}
use Rattle.rlp_write.proofs.structs.slices.FlattenedAppendFields.append_fields.Given as goal

abbrev pub invariant-loop-value : goal.invariant-loop-value
invariant-loop-value g l = Appended g.T.AppendFields.items g.T.AppendFields.fit l.values l.value-index l.fn.s l.s
