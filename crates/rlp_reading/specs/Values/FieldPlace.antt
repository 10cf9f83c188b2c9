-- The place of a reader of fields.
use Rattle.std.specs.Prelude.{ℕ, ◌≡◌, ◌≤◌, List, None, Err, length, drop}
use Rattle.rlp_reading.specs.{Format.Framing.{fault, items, split, after_items}, Views.View.{View, item_at, items_fault}}

-- These bytes are left after the first `place` items of a view. Each number past the last item has the fault of the bytes that follow the items.
pub record IsAtPlace (v : View) (place : ℕ) (left : List ℕ) : Type 0 where
  pub told : items_fault v ≡ None
  pub others : split left ≡ drop place (items v.bytes)
  pub few : place ≤ length (items v.bytes)
  pub past : (i : ℕ) → length (items v.bytes) ≤ i → item_at v i ≡ Err (fault (after_items left))
