-- A tree in flat form: one entry for each item, in the order in which the items begin.
use Rattle.std.specs.Prelude.{ℕ, ◌≡◌, ◌+◌, ◌-◌, ◌≤◌, Bool, true, false, List, [], ◌∷◌, ◌++◌, length}
use Rattle.rlp_reading.specs.declared.flat.FlatItem.{FlatItem}
use Rattle.rlp_format.specs.Format.Encoding.{Item, Items, string, list, no_items, item_and, item_depth, encoding, join_items}

-- an item at this place, inside `depth` lists, with a header and a payload of these lengths
abbrev pub flat_item : ℕ → ℕ → Bool → ℕ → ℕ → FlatItem
flat_item place depth is_list header payload =
    record { place = place; header_len = header; payload_len = payload; depth = depth; is_list = is_list }

-- the length of the header of an item, whose encoding ends with this payload
abbrev pub header_length : Item → List ℕ → ℕ
header_length x payload = length (encoding x) - length payload

-- The rows of an item whose encoding begins at this place, inside `depth` lists: the row of the item itself, and then the rows of the items in it. `row_of` makes
-- each row.
unfoldable mutual
  pub flat_rows : {R : Type 0} → (FlatItem → R) → ℕ → ℕ → Item → List R
  flat_rows row_of place depth (string s) = row_of (flat_item place depth false (header_length (string s) s) (length s)) ∷ []
  flat_rows row_of place depth (list xs) = row_of (flat_item place depth true (header_length (list xs) (join_items xs)) (length (join_items xs)))
      ∷ flat_rows_inside row_of (place + header_length (list xs) (join_items xs)) (depth + 1) xs

  -- the rows of the items that an item holds
  pub flat_rows_inside : {R : Type 0} → (FlatItem → R) → ℕ → ℕ → Items → List R
  flat_rows_inside row_of place depth no_items = []
  flat_rows_inside row_of place depth (item_and x xs) =
      flat_rows row_of place depth x ++ flat_rows_inside row_of (place + length (encoding x)) depth xs

-- the items of a tree whose encoding begins at place 0
abbrev pub flat : Item → List FlatItem
flat x = flat_rows (λ item. item) 0 0 x

-- the bytes are the encoding of an item within the depth, and these are its items
pub record IsFlat (most : ℕ) (b : List ℕ) (items : List FlatItem) : Type 0 where
  pub x : Item
  pub is : b ≡ encoding x
  pub deep : item_depth x ≤ most
  pub all : items ≡ flat x
