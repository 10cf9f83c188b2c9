-- How children of nodes of the trie are written and read.
use Rattle.std.specs.Prelude.{ℕ, ◌≡◌, ◌⊎◌, if◌then◌else◌, nat_le, List, length, Result, Err}
use Rattle.std.proofs.Common.{inl, inr}
use Rattle.rlp.specs.{Format.Encoding.{Item, string}, Format.Framing.begins_as_list, Values.RawItem.raw_item_of, Values.Sums.sum_item}
use Rattle.rlp.specs.{Views.View.strict_view_of, Form.{Fault, and_then, fixed_of, is_too_big, map_value, raw_item, raw_of, string_of}}
use Rattle.rlp_trie.specs.{declared.child.Child.Child, declared.child.Child.TheVariants.{Node, Inline}}

-- the string of a hash, or the node itself
abbrev pub child_item : Child → Item
child_item (Node hash) = string hash.0
child_item (Inline node) = raw_item_of node.item

-- a hash has 32 bytes, and a node that is kept is a raw item
abbrev pub IsChild : Child → Type 0
IsChild (Node hash) = length hash.0 ≡ 32
IsChild (Inline node) = raw_item.Fits node.item

-- the bytes of a hash, or of a node that is kept
abbrev pub seen_child : Child → List ℕ ⊎ List ℕ
seen_child (Node hash) = inl hash.0
seen_child (Inline node) = inr node.item

-- the item of a child, by what contracts see of the child
abbrev pub written_child : List ℕ ⊎ List ℕ → Item
written_child = sum_item string raw_item_of

-- ---- what the bytes of an item give

-- the hash: a string of 32 bytes
abbrev pub hash_of : List ℕ → Result (List ℕ) Fault
hash_of b = and_then (string_of (strict_view_of b)) (fixed_of 32)

-- the node that is kept: a raw item of fewer than 32 bytes
abbrev pub inline_of : List ℕ → Result (List ℕ) Fault
inline_of b = if nat_le 32 (length b) then Err is_too_big else raw_of b

-- the child: a list is a node that is kept, and a string is a hash
abbrev pub child_of : List ℕ → Result (List ℕ ⊎ List ℕ) Fault
child_of b = if begins_as_list b then map_value inr (inline_of b) else map_value inl (hash_of b)
