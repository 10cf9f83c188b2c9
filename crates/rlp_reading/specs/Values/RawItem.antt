-- Items that are kept as the bytes of their encodings.
use Rattle.std.specs.Prelude.{ℕ, zero, suc, List, [], map, Result, Ok, Err}
use Rattle.rlp_reading.specs.{declared.error.DecoderError.DecoderError, Format.Framing.{frame, items, IsCanonicalWithin, unless, read_string}, Views.View.{View, frame_fault}}
use Rattle.rlp_format.specs.Format.Encoding.{Item, string, list_of}

-- the string that was read, or no bytes for a fault
abbrev pub string_or_none : Result (List ℕ) DecoderError → List ℕ
string_or_none (Ok d) = d
string_or_none (Err e) = []

-- the string that was read, or else the list of the items that the items of the bytes are read as
abbrev pub item_by : (List ℕ → Item) → List ℕ → Result (List ℕ) DecoderError → Item
item_by inside bytes (Ok d) = string d
item_by inside bytes (Err e) = list_of (map inside (items bytes))

-- The item that bytes are read as, through at most this number of nested lists. It is meaningful only if the bytes begin with the encoding of such an item:
-- `item_within most (encoding x)` is `x` if the depth of `x` is at most `most`.
unfoldable pub item_within : ℕ → List ℕ → Item
item_within zero bytes = string (string_or_none (read_string bytes))
item_within (suc most) bytes = item_by (item_within most) bytes (read_string bytes)

-- ---- the type `RawItem`

-- the greatest depth of a raw item
abbrev pub deepest_raw_item : ℕ
deepest_raw_item = 256

-- The bytes are the encoding of an item of at most the greatest depth of a raw item. Proofs of types that hold raw items don't look inside.
unfoldable pub IsRawItem : List ℕ → Type 0
IsRawItem b = IsCanonicalWithin deepest_raw_item b

-- the item that the bytes of a raw item are the encoding of
abbrev pub raw_item_of : List ℕ → Item
raw_item_of b = item_within deepest_raw_item b

-- the bytes of the first item of a view, or why there is none; a strict view has only that item
abbrev pub view_frame : View → Result (List ℕ) DecoderError
view_frame v = unless (frame_fault v) (frame v.bytes)
