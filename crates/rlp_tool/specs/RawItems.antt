-- Raw bytes that are items.
use Rattle.std.specs.{Prelude.{ℕ, ◌≡◌, ◌&&◌, nat_eq, nat_le, Bool, IsTrue, List, map, length, All}, Str.bytes_eq}
use Rattle.rlp.specs.{Format.Encoding.{Item, item_depth, join}, Format.Framing.split}
pub use Rattle.rlp.specs.Values.RawItem.{deepest_raw_item, raw_item_of}

-- whether an item has at most the depth 256
abbrev pub is_shallow : Item → Bool
is_shallow x = nat_le (item_depth x) deepest_raw_item

-- an item of at most this depth
abbrev pub IsShallow : Item → Type 0
IsShallow x = IsTrue (is_shallow x)

-- the bytes are the joined canonical encodings of `count` items, none deeper than 256
pub record AreRawItems (bytes : List ℕ) (count : ℕ) : Type 0 where
  pub brought : List Item
  pub joined : bytes ≡ join brought
  pub counted : length brought ≡ count
  pub shallow : All IsShallow brought

-- ---- the same, computed: the bytes are read as items, and these items are written again

-- the items that the first framed items of bytes are read as
abbrev pub raw_items : List ℕ → List Item
raw_items bytes = map raw_item_of (split bytes)

-- whether bytes are the joined encodings of this number of items, the items that they are read as
abbrev pub are_raw_items : List ℕ → ℕ → Bool
are_raw_items bytes count = bytes_eq (join (raw_items bytes)) bytes && nat_eq (length (raw_items bytes)) count
