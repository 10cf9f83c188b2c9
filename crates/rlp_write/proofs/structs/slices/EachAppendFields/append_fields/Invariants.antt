use Rattle.std.proofs.Common.{[], ◌∷◌}
use Rattle.rlp_write.proofs.Streams.Fields.{Appended}
use Rattle.rlp_write.proofs.structs.slices.EachAppendFields.append_fields.Given as goal

abbrev pub invariant-loop-value : goal.invariant-loop-value
invariant-loop-value g l = Appended (λ v. g.T.Encodable.item v ∷ []) g.T.Encodable.fits l.values l.value-index l.fn.s l.s
