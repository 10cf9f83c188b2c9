use Rattle.std.proofs.Common.{◌≡◌, ◌++◌, ℕ, List, length, map}
use Rattle.std.specs.Borrow.{Bor}
use Rattle.rlp_reading.specs.Form.{here, map_value, read_each}
use Rattle.rlp_records.specs.Hashing.{alone_of}
use Rattle.rlp_records.proofs.hash.item_values.Given as goal

-- the bytes so far come before the bytes of the items that are left
abbrev pub invariant-loop-item : goal.invariant-loop-item
invariant-loop-item l =
    let n = length l.initial.items.views in
    (read_each (λ item. here (alone_of item)) n l.initial.items.views).result
    ≡ map_value (λ xs. map (λ (s : Bor (List ℕ)). s.now) l.values.items ++ xs) (read_each (λ item. here (alone_of item)) n l.items.views).result

abbrev pub decreases-loop-item : goal.decreases-loop-item
decreases-loop-item l = length l.items.views
