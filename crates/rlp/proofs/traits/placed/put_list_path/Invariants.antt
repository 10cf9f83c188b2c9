use Rattle.std.proofs.Common.{◌≡◌, ◌+◌, length}
use Rattle.rlp_reading.specs.Form.{fault_path, read_each}
use Rattle.rlp.proofs.traits.placed.put_list_path.Given as goal

-- no item before the place has a fault
abbrev pub invariant-loop-item : goal.invariant-loop-item
invariant-loop-item g l =
    let r = g.T.Decodable.reading in
    let n = length l.initial.items.views in
    (l.path.items ≡ l.fn.path.items) × (l.place + length l.items.views ≡ n)
    × (fault_path (read_each r.read n l.initial.items.views) ≡ fault_path (read_each r.read n l.items.views))

abbrev pub decreases-loop-item : goal.decreases-loop-item
decreases-loop-item g l = length l.items.views
