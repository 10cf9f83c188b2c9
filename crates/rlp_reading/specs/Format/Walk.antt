-- What the walk over a tree has done.
use Rattle.std.specs.Prelude.{ℕ, ◌≡◌, ◌+◌, ◌≤◌, List, ◌++◌, length, take, drop}
use Rattle.rlp_reading.specs.{declared.flat.FlatItem.FlatItem, Format.Flat.flat_rows, Format.Framing.IsCanonicalWithin}
use Rattle.rlp_format.specs.Format.Encoding.{Item, item_depth, encoding}

-- The array has the same number of elements, and if there is room for them, the rows follow the first n elements. The elements behind the rows are as they
-- were.
pub record Extends {R : Type 0} (old : List R) (n : ℕ) (rows : List R) (new : List R) : Type 0 where
  pub same_len : length new ≡ length old
  pub filled : n + length rows ≤ length old → take (n + length rows) new ≡ take n old ++ rows
  pub behind : drop (n + length rows) new ≡ drop (n + length rows) old

-- b is the encoding of no item
abbrev pub IsNeverCanonical : List ℕ → Type 0
IsNeverCanonical b = (most : ℕ) → ¬ IsCanonicalWithin most b

-- b is the encoding of an item within the depth, and its rows were written
pub record IsWalked {R : Type 0} (row_of : FlatItem → R) (b : List ℕ) (place depth most : ℕ) (old : List R) (count : ℕ) (new : List R) (n : ℕ) : Type 0 where
  pub x : Item
  pub is : b ≡ encoding x
  pub deep : item_depth x ≤ most
  pub rows : Extends old count (flat_rows row_of place depth x) new
  pub total : n ≡ count + length (flat_rows row_of place depth x)
  pub few : n ≤ place + length b
