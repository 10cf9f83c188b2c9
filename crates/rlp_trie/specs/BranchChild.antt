-- How the places of a branch are written and read.
use Rattle.std.specs.Prelude.{ℕ, ◌==◌, ◌∷◌, ◌⊎◌, if◌then◌else◌, Bool, false, Option, Some, None, option_map, IfSome, List, [], Result, Ok}
use Rattle.rlp.specs.{Format.Encoding.{Item, string}, Form.{Fault, map_value}}
use Rattle.rlp_trie.specs.{Child.{IsChild, child_item, child_of, seen_child, written_child}, declared.child.Child.Child}

-- the item of a child, or the empty string if there is none
abbrev pub place_item : Option Child → Item
place_item None = string []
place_item (Some c) = child_item c

-- the child fits, if there is one
abbrev pub IsPlace : Option Child → Type 0
IsPlace o = IfSome o IsChild

-- what is seen of the child, if there is one
abbrev pub seen_place : Option Child → Option (List ℕ ⊎ List ℕ)
seen_place o = option_map seen_child o

-- the item of a place, by what contracts see of the place
abbrev pub written_place : Option (List ℕ ⊎ List ℕ) → Item
written_place None = string []
written_place (Some m) = written_child m

-- whether bytes are the encoding of the empty string: the byte 0x80
abbrev pub is_empty_string : List ℕ → Bool
is_empty_string [] = false
is_empty_string (first ∷ []) = first == 0x80
is_empty_string (first ∷ next ∷ more) = false

-- what the bytes of an item give: no child for the empty string, and else a child
abbrev pub place_of : List ℕ → Result (Option (List ℕ ⊎ List ℕ)) Fault
place_of b = if is_empty_string b then Ok None else map_value Some (child_of b)
