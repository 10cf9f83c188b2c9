-- How deep the lists in bytes nest.
use Rattle.std.specs.Prelude.{ℕ, suc, max, Bool, true, false, List, map, fold, Result, Ok, Err}
use Rattle.rlp_reading.specs.{declared.error.DecoderError.DecoderError, Format.Framing.{value, begins_as_list, items}, Views.ByItems.by_items}

-- the greatest of the numbers, or 0
abbrev pub greatest : List ℕ → ℕ
greatest ns = fold max 0 ns

-- a framed list has depth 1 plus the greatest depth of its items, or 1 without items; anything else has depth 0
abbrev pub framed_depth : (List ℕ → ℕ) → List ℕ → Bool → Result (List ℕ) DecoderError → ℕ
framed_depth depth_of b is_list (Err e) = 0
framed_depth depth_of b false (Ok v) = 0
framed_depth depth_of b true (Ok v) = suc (greatest (map depth_of (items b)))

-- the depth of b, if depth_of gives the depths of its items
abbrev pub depth_by : (List ℕ → ℕ) → List ℕ → ℕ
depth_by depth_of b = framed_depth depth_of b (begins_as_list b) (value b)

-- How deep the lists in b nest. The law `text_and_depth_go_by_items` says that this is `depth_by depth b`.
unfoldable pub depth : List ℕ → ℕ
depth b = by_items 0 depth_by b
