use Rattle.std.proofs.Common.{◌≡◌, ◌++◌, length, map}
use Rattle.rlp_reading.specs.Form.{here, map_value, read_each}
use Rattle.rlp_records.specs.Hashing.{hash_of}
use Rattle.rlp_records.proofs.hash.item_hashes.Given as goal

-- the hashes so far come before the hashes of the items that are left
abbrev pub invariant-loop-item : goal.invariant-loop-item
invariant-loop-item l =
    let n = length l.initial.items.views in
    (read_each (λ item. here (hash_of item)) n l.initial.items.views).result
    ≡ map_value (λ xs. map (λ h. h.0) l.hashes.items ++ xs) (read_each (λ item. here (hash_of item)) n l.items.views).result

abbrev pub decreases-loop-item : goal.decreases-loop-item
decreases-loop-item l = length l.items.views
