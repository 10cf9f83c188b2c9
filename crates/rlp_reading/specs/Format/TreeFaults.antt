-- The first fault of bytes that should be a tree.
use Rattle.std.specs.Prelude.{ℕ, ◌≡◌, zero, suc, Bool, false, ◌&&◌, if◌then◌else◌, ◌==◌, nat_lt, List, [], ◌∷◌, map, Option, Some, None}
use Rattle.rlp_reading.specs.{declared.error.DecoderError.DecoderError, declared.error.DecoderError.TheVariants.{OutOfMemory, RlpInvalidIndirection}}
use Rattle.rlp_reading.specs.Format.Framing.{begins_as_list, payload, split, IsCanonicalWithin, after_items, fault_of_some, strict_fault}
use Rattle.rlp_reading.specs.{declared.flat.TreeFault.TreeFault, declared.flat.TreeFault.TheVariants.{Decoding, TooDeep}}

-- whether bytes are a header in front of one byte that is its own encoding
abbrev pub is_needless : List ℕ → Bool
is_needless [] = false
is_needless (header ∷ []) = false
is_needless (header ∷ byte ∷ []) = (header == 0x81) && nat_lt byte 0x80
is_needless (header ∷ byte ∷ next ∷ rest) = false

-- the fault of a framed string
abbrev pub needless_fault : List ℕ → Option TreeFault
needless_fault f = if is_needless f then Some (Decoding RlpInvalidIndirection) else None

-- the first of these faults, or else the fault of what follows
abbrev pub first_of : List (Option TreeFault) → Option DecoderError → Option TreeFault
first_of [] None = None
first_of [] (Some e) = Some (Decoding e)
first_of (None ∷ faults) follows = first_of faults follows
first_of (Some e ∷ faults) follows = Some e

-- the first fault of the items in a payload, or else why the bytes that follow the items are no item
abbrev pub payload_fault : (List ℕ → Option TreeFault) → List ℕ → Option TreeFault
payload_fault item_fault p = first_of (map item_fault (split p)) (fault_of_some (after_items p))

-- The first fault, in the order of its bytes, of a framed item whose lists may nest to this depth: a list that is too deep, a needless header, or bytes that aren't an item.
unfoldable pub walk_fault : ℕ → List ℕ → Option TreeFault
walk_fault zero f = if begins_as_list f then Some TooDeep else needless_fault f
walk_fault (suc left) f = if begins_as_list f then payload_fault (walk_fault left) (payload f) else needless_fault f

-- the fault of bytes that aren't exactly one framed item, or else the first fault in the item
abbrev pub first_in : Option DecoderError → Option TreeFault → Option TreeFault
first_in None inside = inside
first_in (Some e) inside = Some (Decoding e)

-- The first fault of bytes: why they aren't exactly one framed item, or else the first fault of the item. The encoding of an item within the depth has none.
unfoldable pub tree_fault : ℕ → List ℕ → Option TreeFault
tree_fault most b = first_in (strict_fault b) (walk_fault most b)

-- The fault of bytes that have no flat form within the depth: their first fault. If the bytes have a flat form, memory was refused.
pub data IsFlatFault (most : ℕ) (b : List ℕ) : TreeFault → Type 0 where
  faulty : (e : TreeFault) → tree_fault most b ≡ Some e → ¬ IsCanonicalWithin most b → IsFlatFault most b e
  refused : IsCanonicalWithin most b → IsFlatFault most b (Decoding OutOfMemory)
