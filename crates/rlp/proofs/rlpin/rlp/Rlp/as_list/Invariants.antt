use Rattle.std.proofs.Common.{◌≡◌, ◌≤◌, ◌++◌, length, map}
use Rattle.rlp_reading.specs.Form.{map_value, read_each}
use Rattle.rlp.proofs.rlpin.rlp.Rlp.as_list.Given as goal

-- the values so far come before what the items that are left give, no items are added, and the bytes after the items are the same
abbrev pub invariant-loop-item : goal.invariant-loop-item
invariant-loop-item g l =
    let r = g.T.Decodable.reading in
    ((read_each r.read (length l.initial.items.views) l.initial.items.views).result
    ≡ map_value (λ xs. map r.seen l.values.items ++ xs) (read_each r.read (length l.initial.items.views) l.items.views).result)
    × (length l.items.views ≤ length l.initial.items.views)
    × (l.items.after ≡ l.initial.items.after)

abbrev pub decreases-loop-item : goal.decreases-loop-item
decreases-loop-item g l = length l.items.views
