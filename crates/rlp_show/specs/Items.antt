-- What is shown of items of any kind, and of nodes of the trie.
use Rattle.std.specs.Prelude.{ℕ, zero, suc, ◌-◌, ◌==◌, if◌then◌else◌, not, Bool, true, false, List, [], ◌∷◌, codes, get_or, length, map, take, Option, Some, None, Result, Ok, Err}
use Rattle.std.proofs.Common.{inl, inr}
use Rattle.rlp_records.specs.Keccak.{keccak256}
use Rattle.rlp.specs.{Format.Encoding.{Item, Items, string, list, no_items, item_and, items_from}, Format.Framing.items, Views.View.View, Views.View.item_views, Views.View.view_of}
use Rattle.rlp.specs.{Values.RawItem.{deepest_raw_item, item_within, raw_item_of, string_or_none}, DecoderError.DecoderError, Format.Framing.read_string}
use Rattle.rlp_trie.specs.{HexPrefix.ends_in_leaf, TrieNodeLaws.trie_node}
use Rattle.rlp_show.specs.Display.{a_string, bytes_as, content_bytes, derived, one_if, same, through}
use Rattle.rlp_show.specs.Value.{Fields, Value, Entries, Values, content, object, array, bytes, text, nothing, both, entry, by_form, no_values, value_and, values_of}
use Rattle.rlp_show.specs.{Lines.digits_text, Records.written, declared.sink.BytesKind.TheVariants.{Any, Encoding, Path}}

-- ---- the parts of nodes

-- a hex-prefix encoded path, and in JSON its nibbles
abbrev pub path_fields : Fields (List ℕ)
path_fields = through (λ d. (d, d)) (
    same (codes "path") (bytes_as Path) (
    derived (λ d. by_form nothing (entry (codes "nibbles") (codes "nibbles") (content (text (digits_text d)))))))

-- the hash of a node, if it is shown, and the kind of the node
abbrev pub kind_entries : Option (List ℕ) → List ℕ → Entries
kind_entries hash kind = both ((one_if (codes "hash") a_string).shown hash) (entry (codes "node") (codes "node") (content (text kind)))

-- the name of the kind of a leaf or an extension, and the name of its value or its child
abbrev pub kind_of : Bool → List ℕ
kind_of true = codes "leaf"
kind_of false = codes "extension"

abbrev pub key_of : Bool → List ℕ
key_of true = codes "value"
key_of false = codes "child"

-- a leaf with this path and this value, or an extension with this path and this child
abbrev pub pair_entries : Option (List ℕ) → Bool → List ℕ → Value → Entries
pair_entries hash leaf d v = both (kind_entries hash (kind_of leaf)) (both (path_fields.shown d) (entry (key_of leaf) (key_of leaf) v))

-- a branch with these children and this value
abbrev pub branch_entries : Option (List ℕ) → Values → Value → Entries
branch_entries hash children v =
    both (kind_entries hash (codes "branch")) (both (entry (codes "children") (codes "children") (array children)) (entry (codes "value") (codes "value") v))

-- ---- items, by the bytes that they are kept as

-- The string that bytes begin with, or no bytes.
abbrev pub string_at : List ℕ → List ℕ
string_at b = string_or_none (read_string b)

module _ (inside : Bool → List ℕ → Value) where
  -- items of any kind, or nodes
  abbrev pub items_shown : Bool → List View → Value
  items_shown is_node vs = array (values_of (λ (v : View). inside is_node v.bytes) vs)

  -- nodes that begin with this hash, if a hash is given
  module _ (hash : Option (List ℕ)) where
    -- two items, by whether the string of the first is the path of a leaf, the path of an extension, or neither
    abbrev pub pair_shown : Option Bool → View → View → Value
    pair_shown (Some leaf) v w = object (pair_entries hash leaf (string_at v.bytes) (inside (not leaf) w.bytes))
    pair_shown None v w = items_shown false (v ∷ w ∷ [])

    -- A list of two items is a leaf or an extension if the first is a path, and any other list is items of any kind.
    abbrev pub few_shown : List View → Value
    few_shown (v ∷ w ∷ []) = pair_shown (ends_in_leaf (string_at v.bytes)) v w
    few_shown vs = items_shown false vs

    -- the children of a branch, and its value, which is an item of any kind
    abbrev pub branch_shown : View → List View → Value
    branch_shown v vs = object (branch_entries hash (values_of (λ (c : View). inside true c.bytes) (take 16 vs)) (inside false (get_or vs 16 v).bytes))

    -- a list of 17 items is a branch
    abbrev pub node_shown : List View → Value
    node_shown [] = items_shown false []
    node_shown (v ∷ vs) = if length (v ∷ vs) == 17 then branch_shown v (v ∷ vs) else few_shown (v ∷ vs)

  -- A string is its bytes. A node that is kept in its parent has no hash.
  abbrev pub item_shown : Bool → List ℕ → Result (List ℕ) DecoderError → Value
  item_shown is_node b (Ok d) = content (bytes Any d)
  item_shown true b (Err e) = node_shown None (item_views (view_of b))
  item_shown false b (Err e) = items_shown false (item_views (view_of b))

-- A list that is shown without its items, by its encoding: a list that has items has the one field `encoding`.
abbrev pub inner_shown : List ℕ → List View → Value
inner_shown b [] = array no_values
inner_shown b (v ∷ vs) = object (entry (codes "encoding") (codes "encoding") (content (bytes Encoding b)))

-- An item that is in as many lists as are shown item by item.
abbrev pub last_shown : List ℕ → Result (List ℕ) DecoderError → Value
last_shown b (Ok d) = content (bytes Any d)
last_shown b (Err e) = inner_shown b (item_views (view_of b))

-- The item that bytes begin with, as an item of any kind or as a node that is kept in its parent: through at most this number of nested lists item by item, and a
-- list that is in all of them as its encoding.
unfoldable pub shown_within : ℕ → Bool → List ℕ → Value
shown_within zero is_node b = last_shown b (read_string b)
shown_within (suc most) is_node b = item_shown (shown_within most) is_node b (read_string b)

-- the number of nested lists of an item that are shown item by item
abbrev pub deepest_shown : ℕ
deepest_shown = 16

-- ---- what is shown of an item says what the item is

-- some items, and then other items
abbrev pub joined : Items → Items → Items
joined no_items ys = ys
joined (item_and x xs) ys = item_and x (joined xs ys)

-- The item that a value shows. A node shows a path and an item, or its children and an item; the empty trie shows only its kind. One field is an encoding.
abbrev mutual
  pub shown_item : Value → Item
  shown_item (content c) = string (content_bytes c)
  shown_item (array vs) = list (shown_items vs)
  shown_item (object (both kind (both first (entry name json v)))) = list (shown_first first (item_and (shown_item v) no_items))
  shown_item (object (entry name json (content c))) = item_within (deepest_raw_item - deepest_shown) (content_bytes c)
  shown_item (object es) = string []

  shown_first : Entries → Items → Items
  shown_first (both (entry name json v) more) xs = item_and (shown_item v) xs
  shown_first (entry name json (array vs)) xs = joined (shown_items vs) xs
  shown_first es xs = xs

  pub shown_items : Values → Items
  shown_items no_values = no_items
  shown_items (value_and v vs) = item_and (shown_item v) (shown_items vs)

-- ---- standalone nodes

-- the node whose encoding is these bytes, a list, with its hash
abbrev pub hashed_node : List ℕ → Value
hashed_node b = node_shown (shown_within deepest_shown) (Some (keccak256 b)) (item_views (view_of b))

-- A node is shown by its encoding. The empty trie is a string, of which only the hash and the kind are shown.
abbrev pub whole_node : trie_node.reading.M → Value
whole_node (inl empty) = object (kind_entries (Some (keccak256 (written trie_node.reading (inl empty)))) (codes "empty"))
whole_node (inr m) = hashed_node (written trie_node.reading (inr m))

-- what is told of a node: the empty string for the empty trie, or the items of the list
abbrev pub node_told : trie_node.reading.M → Item
node_told (inl empty) = string []
node_told (inr m) = list (items_from (map raw_item_of (items (written trie_node.reading (inr m)))))
