use Rattle.std.proofs.Common.{◌≡◌, length, take}
use Rattle.rlp_format.specs.Values.Value.{all_items}
use Rattle.rlp_write.proofs.structs.slices.FlattenedAppendFields.field_count.Given as goal

abbrev pub invariant-loop-value : goal.invariant-loop-value
invariant-loop-value g l = l.count ≡ length (all_items g.T.AppendFields.items (take l.value-index l.values))
