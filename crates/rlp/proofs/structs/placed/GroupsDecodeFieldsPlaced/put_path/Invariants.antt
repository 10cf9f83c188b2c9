use Rattle.std.proofs.Common.{◌≡◌, length}
use Rattle.rlp_reading.specs.Form.{fault_path, in_list, most_groups, take_each}
use Rattle.rlp_reading.proofs.PathLaws.{left_of}
use Rattle.rlp.proofs.structs.placed.GroupsDecodeFieldsPlaced.put_path.Given as goal

-- no group before the views that are left has a fault
abbrev pub invariant-loop-turns : goal.invariant-loop-turns
invariant-loop-turns g l =
    let r = g.G.DecodeFields.reading in
    (l.path.items ≡ l.fn.path.items) × (l.fields.count ≡ l.fn.fields.count)
    × (fault_path (in_list l.fn.fields.count (take_each r.read (most_groups r.width (length l.fn.fields.views)) l.fn.fields.views))
    ≡ fault_path (in_list l.fn.fields.count (take_each r.read l.turns l.fields.views)))
    × (left_of (take_each r.read (most_groups r.width (length l.fn.fields.views)) l.fn.fields.views).result ≡ left_of (take_each r.read l.turns l.fields.views).result)

abbrev pub decreases-loop-turns : goal.decreases-loop-turns
decreases-loop-turns g l = l.turns
