-- Bounds on untrusted bytes.
use Rattle.std.specs.{Prelude.{ℕ, zero, suc, ◌≡◌, ◌+◌, ◌≤◌, ◌&&◌, nat_le, nat_lt, if◌then◌else◌, Bool, List, [], ◌∷◌, Option, Some, None, Err, length, codes}, Str.{bytes_eq}}
use Rattle.rlp.specs.{DecoderError.DecoderError, Format.Encoding.{Item, Items, item_and, item_depth, list, no_items, string, encoding}}
use Rattle.rlp.specs.{Format.Flat.flat, Format.Framing.{begins_as_list, strict_fault}, Format.TreeFaults.tree_fault, Values.RawItem.raw_item_of, Views.View.{View, strict_view_of}}
use Rattle.rlp_reading.specs.{Form.{Answer, Fault, custom, fault_of, here}, declared.flat.TreeFault.TreeFault, declared.flat.TreeFault.TheVariants.{Decoding, TooDeep}}

-- the number of strings and lists in an item: the item itself, and the items in it at every depth
abbrev pub items_in : Item → ℕ
items_in x = length (flat x)

-- ---- envelopes

-- whether a byte is the type of a transaction or a receipt that is read: 1 to 4, as in EIP-2930, EIP-1559, EIP-4844 and EIP-7702
abbrev pub is_read_type : ℕ → Bool
is_read_type kind = nat_le 1 kind && nat_le kind 4

-- whether bytes are the encoding of an item whose lists nest at most 256 deep
abbrev pub is_encoding : List ℕ → Bool
is_encoding b = bytes_eq (encoding (raw_item_of b)) b

-- what is counted of bytes that begin as a list and have this strict fault: a list with its header is counted as its number of bytes, and nothing of other bytes
abbrev pub bytes_counted : List ℕ → Option DecoderError → ℕ
bytes_counted b None = length b
bytes_counted b (Some e) = 0

-- What is counted of the payload of an envelope. A list counts as the number of the items in it, with itself. A list that isn't an encoding, or in which lists nest
-- deeper than 256, counts as many items as it has bytes: reading it fails before it has read that many. Other payloads fail at once, and count as no items.
abbrev pub payload_items : List ℕ → ℕ
payload_items payload =
    if begins_as_list payload then (if is_encoding payload then items_in (raw_item_of payload) else bytes_counted payload (strict_fault payload))
    else 0

-- the number of items that a string counts as, besides the string itself: the number that its payload counts as, if the string is an envelope of a type that is read
abbrev pub items_in_string : List ℕ → ℕ
items_in_string [] = 0
items_in_string (kind ∷ payload) = if is_read_type kind then payload_items payload else 0

-- The number of items that the envelopes in an item count as, besides the strings themselves. Envelopes stand inside this number of lists, which is their depth: a
-- string inside as many lists may be an envelope, and a string inside fewer or more lists counts as no further items.
abbrev mutual
  pub items_in_envelopes : ℕ → Item → ℕ
  items_in_envelopes zero (string d) = items_in_string d
  items_in_envelopes zero (list xs) = 0
  items_in_envelopes (suc depth) (string d) = 0
  items_in_envelopes (suc depth) (list xs) = items_in_all_envelopes depth xs

  -- the number of items that the envelopes in these items count as
  pub items_in_all_envelopes : ℕ → Items → ℕ
  items_in_all_envelopes depth no_items = 0
  items_in_all_envelopes depth (item_and x xs) = items_in_envelopes depth x + items_in_all_envelopes depth xs

-- the number of items that the envelopes at a depth count as, and no items where no envelopes may stand
abbrev pub enveloped_items : Option ℕ → Item → ℕ
enveloped_items None x = 0
enveloped_items (Some depth) x = items_in_envelopes depth x

-- the number of items in an item, and in its envelopes
abbrev pub items_counted : Option ℕ → Item → ℕ
items_counted envelopes x = items_in x + enveloped_items envelopes x

-- ---- the bounds

-- the item and its envelopes, which stand at this depth or nowhere, have at most this number of items, and its lists nest at most 256 deep
abbrev pub IsBounded : ℕ → Option ℕ → Item → Type 0
IsBounded most envelopes x = (items_counted envelopes x ≤ most) × (item_depth x ≤ 256)

-- the bytes are the encoding of an item within the bounds
pub record IsWithinBounds (most : ℕ) (envelopes : Option ℕ) (b : List ℕ) : Type 0 where
  pub x : Item
  pub is : b ≡ encoding x
  pub bounded : IsBounded most envelopes x

-- the fault of an item that has more than this number of items with its envelopes
abbrev pub count_fault : ℕ → Option ℕ → Item → Option Fault
count_fault most envelopes x = if nat_lt most (items_counted envelopes x) then Some (custom (codes "too many items")) else None

-- the fault of bytes that have this first fault as a tree
abbrev pub depth_fault : Option TreeFault → Option Fault
depth_fault None = None
depth_fault (Some TooDeep) = Some (custom (codes "nested too deep"))
depth_fault (Some (Decoding e)) = Some (fault_of e)

-- Why bytes are refused before a value is read: the bytes are the encoding of an item with more than `most` items, or lists nest too deep, or the bytes aren't the
-- encoding of an item. Of the last two the fault is the first in the order of the bytes.
abbrev pub bound_fault : ℕ → Option ℕ → List ℕ → Option Fault
bound_fault most envelopes b = if is_encoding b then count_fault most envelopes (raw_item_of b) else depth_fault (tree_fault 256 b)

-- the answer, unless there is a fault
abbrev pub unless_fault : {M : Type 0} → Option Fault → Answer M Fault → Answer M Fault
unless_fault None a = a
unless_fault (Some e) a = here (Err e)

-- what bytes give within the bounds, read strictly
abbrev pub read_bounded : {M : Type 0} → ℕ → Option ℕ → (View → Answer M Fault) → List ℕ → Answer M Fault
read_bounded most envelopes read b = unless_fault (bound_fault most envelopes b) (read (strict_view_of b))
