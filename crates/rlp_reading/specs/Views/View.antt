-- What contracts see of a view, and the results of its methods.
use Rattle.std.specs.Prelude.{ℕ, ◌≡◌, ◌≤◌, ◌↔◌, ◌+◌, ◌-◌, Bool, IsTrue, IsNone, true, false, Option, Some, None, ◌||◌, ◌==◌, if◌then◌else◌, nat_lt}
use Rattle.std.specs.{Prelude.{nat_le, List, [], ◌∷◌, length, take, map, slice_index_or, Result, Ok, Err}, List.concat, Iterator.YieldsFirst}
use Rattle.rlp_reading.specs.{declared.error.DecoderError.DecoderError, declared.error.DecoderError.TheVariants.RlpExpectedToBeList}
use Rattle.rlp_reading.specs.{declared.header.PayloadInfo.PayloadInfo, declared.prototype.Prototype.Prototype}
use Rattle.rlp_reading.specs.{Format.Framing.{fault, framing, map_ok, value, begins_as_list, items, rest, read_string, strict_fault, strict_list_fault, unless, whole_string}}
use Rattle.rlp_reading.specs.declared.prototype.Prototype.TheVariants as prototype
use Rattle.rlp_format.specs.Format.Encoding.{Item, string, BeginsWith, encoding}

-- A view has these bytes, and is lenient or strict.
pub record View : Type 0 where
  pub bytes : List ℕ
  pub is_strict : Bool

-- the lenient view of these bytes
abbrev pub view_of : List ℕ → View
view_of b = record { bytes = b; is_strict = false }

-- the strict view of these bytes
abbrev pub strict_view_of : List ℕ → View
strict_view_of b = record { bytes = b; is_strict = true }

-- the strict fault of a strict view; a lenient view has no such fault
abbrev pub frame_fault : View → Option DecoderError
frame_fault v = if v.is_strict then strict_fault v.bytes else None

-- the lengths of the header and the value that a view begins with, or why the two don't lie within the view, or aren't all bytes of a strict view
abbrev pub view_header : View → Result PayloadInfo DecoderError
view_header v = unless (frame_fault v) (framing v.bytes)

-- the bytes of the value that a view begins with, or the fault of `view_header`
abbrev pub view_value : View → Result (List ℕ) DecoderError
view_value v = unless (frame_fault v) (value v.bytes)

-- the string that a view begins with, or why there is no string; in a strict view nothing follows the string
abbrev pub view_string : View → Result (List ℕ) DecoderError
view_string v = if v.is_strict then whole_string v.bytes (read_string v.bytes) else read_string v.bytes

-- b begins with the bytes s, or, if the Bool is true, b is s
abbrev pub Holds : Bool → List ℕ → List ℕ → Type 0
Holds false b s = BeginsWith b s
Holds true b s = b ≡ s

-- a lenient view begins with the encoding of the item, and a strict view is that encoding
abbrev pub HoldsItem : View → Item → Type 0
HoldsItem v x = Holds v.is_strict v.bytes (encoding x)

-- a lenient view begins with the encoding of the string, and a strict view is that encoding
abbrev pub HoldsString : View → List ℕ → Type 0
HoldsString v d = HoldsItem v (string d)

-- the view holds no string
abbrev pub HoldsNoString : View → Type 0
HoldsNoString v = (d : List ℕ) → ¬ HoldsString v d

-- Why a view can't be read as a list, apart from faults of items. A lenient view has no such fault: bytes that aren't a framed list are read as a list of no items,
-- and bytes that follow the items in a list are ignored.
abbrev pub list_fault : View → Option DecoderError
list_fault v = if v.is_strict then strict_list_fault v.bytes else None

-- the views of the items of a view
abbrev pub item_views : View → List View
item_views v = map (λ b. record v { bytes = b }) (items v.bytes)

-- The bytes that a reader of items has left, and how many headers it has read.
pub record Reading : Type 0 where
  pub rest : List ℕ
  pub headers : ℕ

-- The items that an iterator has left, in order; how many headers its `next` and the call that made it have read; and whether it has ended.
-- An ended iterator gives nothing and reads nothing.
pub record Remaining : Type 0 where
  pub left : List View
  pub headers : ℕ
  pub has_ended : Bool

-- What a call of `next` does. It gives the first item that is left, or nothing if no item is left. It reads at most one header. Once it gave nothing the iterator
-- has ended, and reads no header.
pub record IsStep (old : Remaining) (given : Option View) (new : Remaining) : Type 0 where
  pub steps : YieldsFirst (λ (i : Remaining). i.left) old given new
  pub headers : new.headers ≤ old.headers + 1
  pub headers_once_ended : IsTrue old.has_ended → new.headers ≡ old.headers
  pub ends : IsNone given ↔ IsTrue new.has_ended

-- whether the first byte is the encoding of the empty string or of the empty list
abbrev pub begins_as_empty : List ℕ → Bool
begins_as_empty [] = false
begins_as_empty (first ∷ rest) = (first == 0x80) || (first == 0xc0)

-- whether the first byte begins a string
abbrev pub begins_as_data : List ℕ → Bool
begins_as_data [] = false
begins_as_data (first ∷ rest) = nat_lt first 0xc0

-- whether there is a byte at place i that isn't zero
abbrev pub has_nonzero_at : ℕ → List ℕ → Bool
has_nonzero_at i b = nat_lt 0 (slice_index_or b i 0)

-- Whether the bytes begin as a number does: one byte up to 0x80, or a string whose first byte is there and isn't zero.
-- That byte is after the one byte of a short header, or after the length bytes of a long one.
abbrev pub begins_as_int : List ℕ → Bool
begins_as_int [] = false
begins_as_int (first ∷ rest) =
    if nat_le first 0x80 then true
    else if nat_lt first 0xb8 then has_nonzero_at 0 rest
    else if nat_lt first 0xc0 then has_nonzero_at (first - 0xb7) rest
    else false

-- ---- the items of a view, by number and by place

-- why a view has no items by number: only bytes that begin as a list have items
abbrev pub items_fault : View → Option DecoderError
items_fault v = if begins_as_list v.bytes then list_fault v else Some RlpExpectedToBeList

-- the number of items of a view, or why the view has no items by number
unfoldable pub item_count : View → Result ℕ DecoderError
item_count v = unless (items_fault v) (Ok (length (items v.bytes)))

-- Item i and its place, counted from the view's first byte, if the list's header has h bytes. For i past the last item, the fault of the bytes that follow the
-- items.
abbrev pub item_after : View → ℕ → ℕ → Result (View × ℕ) DecoderError
item_after v i h =
    if nat_lt i (length (items v.bytes)) then Ok (record v { bytes = slice_index_or (items v.bytes) i [] }, h + length (concat (take i (items v.bytes))))
    else Err (fault (rest v.bytes))

-- item i and its place by the list's header, or the fault of bytes that aren't framed
abbrev pub item_by : View → ℕ → Result PayloadInfo DecoderError → Result (View × ℕ) DecoderError
item_by v i (Err e) = Err e
item_by v i (Ok p) = item_after v i p.header_len

-- Item i of a view and its place, counted from the view's first byte, or the fault. First the bytes must begin as a list, then they must be framed. A strict view
-- must be exactly one list.
unfoldable pub item_with_place : View → ℕ → Result (View × ℕ) DecoderError
item_with_place v i = unless (items_fault v) (item_by v i (framing v.bytes))

-- item i of a view, counted from 0, or the fault
abbrev pub item_at : View → ℕ → Result View DecoderError
item_at v i = map_ok (λ p. p.0) (item_with_place v i)

-- the length of a value
abbrev pub value_length : Result (List ℕ) DecoderError → ℕ
value_length (Ok v) = length v
value_length (Err e) = 0

-- the length of a framed string, and 0 for anything else
abbrev pub data_size : List ℕ → ℕ
data_size b = if begins_as_data b then value_length (value b) else 0

-- what bytes begin with: no bytes, a string with its length, or a list with its number of items
abbrev pub prototype_of : List ℕ → Prototype
prototype_of [] = prototype.Null
prototype_of (first ∷ more) = if begins_as_list (first ∷ more) then prototype.List (length (items (first ∷ more))) else prototype.Data
    (data_size (first ∷ more))
