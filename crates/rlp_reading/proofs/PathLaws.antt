-- Where readings have faults, for bodies that look for the path of a fault.
use Rattle.std.specs.Prelude.{◌≡◌, ◌<◌, ◌-◌, ◌⊎◌, ℕ, List, [], ◌∷◌, length, Some, None, IsOkAnd, Result}
use Rattle.std.proofs.Common.{arith}
use Rattle.rlp_reading.specs.{Views.View.{View}, Form.{Answer, Fault, Path, Taken, fault_path, in_list, map_value, read_each, take_each, within}}

-- an item without a fault leaves the fault to the items after it
pub item_passed : {M : Type 0} (read : View → Answer M Fault) (n i : ℕ) (v : View) (vs : List View) → fault_path (within i (read v)) ≡ None
    → fault_path (read_each read n (v ∷ vs)) ≡ fault_path (read_each read n vs)
item_passed {M} read n i v vs none = grind arith

-- an item with a fault has the fault of the list
pub item_found : {M : Type 0} (read : View → Answer M Fault) (n i : ℕ) (v : View) (vs : List View) (p : Path) → fault_path (within i (read v)) ≡ Some p
    → i ≡ n - 1 - length vs → fault_path (read_each read n (v ∷ vs)) ≡ Some p
item_found {M} read n i v vs p some is = grind arith

pub ruleset items_found = (item_passed, item_found)

-- a group without a fault leaves the fault to the groups after it
pub group_passed : {M : Type 0} (read : List View → Taken M) (n turns : ℕ) (vs left : List View) → 0 < turns → ¬ (vs ≡ [])
    → IsOkAnd (read vs).result (λ t. t.1 ≡ left)
    → fault_path (in_list n (take_each read turns vs)) ≡ fault_path (in_list n (take_each read (turns - 1) left))
group_passed read n turns vs left some more is = grind arith

-- a group with a fault has the fault of all
pub group_found : {M : Type 0} (read : List View → Taken M) (n turns : ℕ) (vs : List View) (p : Path) → 0 < turns → ¬ (vs ≡ [])
    → fault_path (in_list n (read vs)) ≡ Some p → fault_path (in_list n (take_each read turns vs)) ≡ Some p
group_found read n turns vs p some more is = grind arith

-- no turn is left, or no view
pub no_group : {M : Type 0} (read : List View → Taken M) (n turns : ℕ) (vs : List View) → (turns ≡ 0) ⊎ (vs ≡ []) → fault_path (in_list n (take_each read turns vs)) ≡ None
no_group read n turns vs none = grind arith

-- what a result leaves, or its fault
abbrev pub left_of : {A : Type 0} → Result (A × List View) (List View × Fault) → Result (List View) (List View × Fault)
left_of r = map_value (λ t. t.1) r

-- a group without a fault leaves the rest to the groups after it
pub group_left : {M : Type 0} (read : List View → Taken M) (turns : ℕ) (vs left : List View) → 0 < turns → ¬ (vs ≡ [])
    → IsOkAnd (read vs).result (λ t. t.1 ≡ left) → left_of (take_each read turns vs).result ≡ left_of (take_each read (turns - 1) left).result
group_left read turns vs left some more is = grind arith

-- the views that are left after the last group
pub last_left : {M : Type 0} (read : List View → Taken M) (turns : ℕ) (vs : List View) (r : Result (List M × List View) (List View × Fault))
    → left_of r ≡ left_of (take_each read turns vs).result → (turns ≡ 0) ⊎ (vs ≡ []) → IsOkAnd r (λ t. t.1 ≡ vs)
last_left read turns vs r is none = grind arith

pub ruleset groups_found = (group_passed, group_found, no_group, group_left, last_left)
