-- Where the contents of a value stand in its encoding: a row for each content, and for each header of a list that has items. A list that is
-- shown as its encoding is one content.
use Rattle.std.specs.Prelude.{ℕ, zero, suc, ◌-◌, ◌==◌, ◌&&◌, ◌||◌, nat_lt, nat_eq, if◌then◌else◌, Bool, false, List, [], ◌∷◌, ◌++◌, codes, decimal, length, take, drop, Result, Ok, Err}
use Rattle.std.specs.List.{starts_with}
use Rattle.hex.specs.Hex.{encode_lower}
use Rattle.rlp.specs.{DecoderError.DecoderError, Format.Encoding.encoding, Format.Framing.begins_as_list, PayloadInfo.PayloadInfo, Values.Value.number_item, Views.View.begins_as_data}
use Rattle.rlp.specs.{Format.Framing.framing, Format.Encoding.string}
use Rattle.rlp_show.specs.Value.{Steps, after, Content, Value, number, type_byte, bytes, text, empty_list}
use Rattle.rlp_show.specs.{declared.sink.NumberKind.TheVariants.Place, declared.sink.BytesKind.TheVariants.{Encoding, Payload}, Lines.line}

-- The rows so far, the number of bytes of the encoding, and the bytes that have no row yet.
pub record Dump : Type 0 where
  pub rows : List ℕ
  pub size : ℕ
  pub rest : List ℕ

-- bytes as hexadecimal digits, or a dash for no bytes
abbrev pub part_text : List ℕ → List ℕ
part_text [] = codes "-"
part_text (b ∷ bs) = encode_lower (b ∷ bs)

-- the place of the next bytes, the first h of them as a header, and the n bytes after it as a payload
abbrev pub place_text : ℕ → ℕ → Dump → List ℕ
place_text h n s =
    decimal (s.size - length s.rest) ++ codes " " ++ part_text (take h s.rest) ++ codes " " ++ part_text (take n (drop h s.rest)) ++ codes " "

-- a row for the next bytes, and what they are
abbrev pub row : ℕ → ℕ → List ℕ → Dump → Dump
row h n what s = record { rows = s.rows ++ place_text h n s ++ what; size = s.size; rest = drop n (drop h s.rest) }

-- a row for a content that isn't in the encoding, such as the hash of the encoding
abbrev pub row_without_place : List ℕ → Dump → Dump
row_without_place what s = record { rows = s.rows ++ codes "- - - " ++ what; size = s.size; rest = s.rest }

-- ---- headers

-- the length of the header that bytes begin with
abbrev pub header_length : Result PayloadInfo DecoderError → ℕ
header_length (Ok p) = p.header_len
header_length (Err e) = 0

-- the length of a header, if it is the header of a list or of a string, as asked for, and announces more than this number of bytes; else 0
abbrev pub header_before : Bool → ℕ → Result PayloadInfo DecoderError → ℕ
header_before is_of_kind few (Ok p) = if is_of_kind && nat_lt few p.value_len then p.header_len else 0
header_before is_of_kind few (Err e) = 0

-- the length of the header of a list that has items, if it comes next
abbrev pub list_header : List ℕ → ℕ
list_header b = header_before (begins_as_list b) 0 (framing b)

-- the length of the header of a string of two bytes or more, if it comes next
abbrev pub string_header : List ℕ → ℕ
string_header b = header_before (begins_as_data b) 1 (framing b)

-- whether these bytes, which aren't none, come next
abbrev pub come_next : List ℕ → Dump → Bool
come_next e s = nat_lt 0 (length e) && starts_with nat_eq s.rest e

-- rows for the headers of the lists that come next, until these bytes come next; at most this number of rows
abbrev pub enter_lists : List ℕ → ℕ → Dump → Dump
enter_lists e zero s = s
enter_lists e (suc most) s =
    if come_next e s || (list_header s.rest == 0) then s else enter_lists e most (row (list_header s.rest) 0 (codes "list\n") s)

-- A typed transaction or receipt in a list is the payload of a string, as EIP-2718 has it: a row for the header of this string.
abbrev pub enter_envelope : Dump → Dump
enter_envelope s = if string_header s.rest == 0 then s else row (string_header s.rest) 0 (codes "envelope\n") s

-- the rows before a content, whose bytes are these: none before the payload of an envelope, and the headers of lists before any other content
abbrev pub enter : Content → List ℕ → Dump → Dump
enter (bytes Payload b) e s = s
enter (type_byte n) e s = enter_envelope (enter_lists e (length s.rest) s)
enter _ e s = enter_lists e (length s.rest) s

-- the bytes of a content in an encoding; a place or a text has no bytes there
abbrev pub encoded_bytes : Content → List ℕ
encoded_bytes (number Place n) = []
encoded_bytes (number kind n) = encoding (number_item n)
encoded_bytes (type_byte n) = encoding (string (n ∷ []))
encoded_bytes (bytes Payload b) = b
encoded_bytes (bytes Encoding b) = b
encoded_bytes (bytes kind b) = encoding (string b)
encoded_bytes (text t) = []
encoded_bytes empty_list = 0xc0 ∷ []

-- the length of the header of a content, whose bytes are these
abbrev pub content_header : Content → List ℕ → ℕ
content_header (bytes Payload b) e = 0
content_header _ e = header_length (framing e)

-- a row for a content, whose bytes are these
abbrev pub content_row : List ℕ → Content → List ℕ → Dump → Dump
content_row what c e s = if come_next e s then row (content_header c e) (length e - content_header c e) what s else row_without_place what s

-- how rows are made of a value
abbrev pub dump_steps : Steps Dump
dump_steps = record {
  is_json = false;
  key = λ json s. s;
  put = λ name c s. content_row (line name c) c (encoded_bytes c) (enter c (encoded_bytes c) s);
  bracket = λ bracket s. s;
}

-- the rows of a value of this name, whose encoding is b
abbrev pub dump_of : List ℕ → List ℕ → Value → List ℕ
dump_of b name v = (after dump_steps name v (record { rows = []; size = length b; rest = b })).rows
