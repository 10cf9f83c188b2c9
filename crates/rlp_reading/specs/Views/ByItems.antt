-- A result for bytes, from the results for the items of their list.
use Rattle.std.specs.Prelude.{ℕ, zero, suc, List, length}

-- the result of `step` for bytes, given the results for the items of the bytes, through at most this number of nested lists; `none` for bytes inside that many lists
abbrev pub by_items_within : {A : Type 0} → A → ((List ℕ → A) → List ℕ → A) → ℕ → List ℕ → A
by_items_within none step zero b = none
by_items_within none step (suc turns) b = step (by_items_within none step turns) b

-- The result of `step` for bytes, through all nested lists. Items are shorter than their list, so the depth is below the number of bytes.
abbrev pub by_items : {A : Type 0} → A → ((List ℕ → A) → List ℕ → A) → List ℕ → A
by_items none step b = by_items_within none step (suc (length b)) b
