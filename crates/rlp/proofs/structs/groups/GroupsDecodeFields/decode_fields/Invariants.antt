use Rattle.std.proofs.Common.{◌≡◌, ◌++◌, ◌<◌, List, length, map}
use Rattle.rlp_reading.specs.{Views.View.View, Form.{map_value, most_groups, take_each}}
use Rattle.rlp.proofs.structs.groups.GroupsDecodeFields.decode_fields.Given as goal

-- the groups so far come before what the views that are left give, and the bytes after the items are the same
abbrev pub invariant-loop-alloc : goal.invariant-loop-alloc
invariant-loop-alloc g l =
    let r = g.G.DecodeFields.reading in
    ((take_each r.read (most_groups r.width (length l.fn.fields.views)) l.fn.fields.views).result
    ≡ map_value (λ (t : List r.M × List View). (map r.seen l.groups.items ++ t.0, t.1)) (take_each r.read (length l.fields.views) l.fields.views).result)
    × (l.fields.after ≡ l.fn.fields.after) × (0 < r.width)

abbrev pub decreases-loop-alloc : goal.decreases-loop-alloc
decreases-loop-alloc g l = length l.fields.views
