-- The tree that rows describe.
use Rattle.std.specs.Prelude.{ℕ, ◌≡◌, ◌+◌, ◌≤◌, if◌then◌else◌, ◌==◌, nat_lt, List, [], ◌∷◌, length}
use Rattle.rlp_format.specs.Format.Encoding.{Item, string, list, Items, no_items, item_and, string_encoding, written_header}
use Rattle.rlp_c.specs.{declared.item.RlpItem.RlpItem, Rows.payload_at}

-- the item of a row with these items in it: a list of them, or the string that the row points at
abbrev pub item_of : List ℕ → RlpItem → Items → Item
item_of b r inner = if r.is_list == 0 then string (payload_at b r) else list inner

-- The items of this depth, up to the first row of a smaller depth. A row of a greater depth is in an item before it.
unfoldable pub items_of : List ℕ → ℕ → List RlpItem → Items
items_of b depth [] = no_items
items_of b depth (r ∷ rs) =
    if nat_lt r.depth depth then no_items
    else if r.depth == depth then item_and (item_of b r (items_of b (depth + 1) rs)) (items_of b depth rs)
    else items_of b depth rs

-- The tree: the item of the first row, with the items of depth 1 in it. It has no meaning without rows.
unfoldable pub tree_of : List ℕ → List RlpItem → Item
tree_of b [] = list no_items
tree_of b (r ∷ rs) = item_of b r (items_of b 1 rs)

-- the greatest depth that the row after this one may have: the depth of the items in a list, and the depth of a string itself
abbrev pub depth_behind : RlpItem → ℕ
depth_behind r = if r.is_list == 0 then r.depth else r.depth + 1

-- a row whose depth is in range, and which is a list inside fewer than `limit` lists, or a string inside the buffer
pub record IsRow (limit len least most : ℕ) (r : RlpItem) : Type 0 where
  pub deep : least ≤ r.depth
  pub reached : r.depth ≤ most
  pub shallow : depth_behind r ≤ limit
  pub within : r.is_list ≡ 0 → r.offset + r.header_len + r.payload_len ≤ len

-- the first row has a depth between these two, and each later row is inside the first list and at most as deep as the row before it allows
abbrev pub AreRows : ℕ → ℕ → ℕ → ℕ → List RlpItem → Type 0
AreRows limit len least most [] = Unit {0}
AreRows limit len least most (r ∷ rs) = IsRow limit len least most r × AreRows limit len 1 (depth_behind r) rs

-- the rows describe a tree of at most this depth, whose strings are parts of the bytes
pub record DescribeTree (limit : ℕ) (b : List ℕ) (rows : List RlpItem) : Type 0 where
  pub some : 1 ≤ length rows
  pub fit : AreRows limit (length b) 0 0 rows

-- the bytes that are written for a row itself, in front of this number of bytes for the items in it
abbrev pub front_of : List ℕ → RlpItem → ℕ → List ℕ
front_of b r inside = if r.is_list == 0 then string_encoding (payload_at b r) else written_header 0xc0 inside
