-- The lines of a value: for each content its name, a colon and its text.
use Rattle.std.specs.Prelude.{ℕ, ◌/◌, ◌%◌, ◌==◌, ◌&&◌, ◌||◌, if◌then◌else◌, Bool, false, List, ◌++◌, [], ◌∷◌, codes, decimal, length, Option, Some, None}
use Rattle.std.specs.{Char.is_ascii_digit, Char.is_ascii_lowercase, Fmt.digit_glyph, List.list_all, Net.Addr.segments_of, Net.Text.ipv4_text, Net.Text.ipv6_text}
use Rattle.hex.specs.Hex.{encode_lower}
use Rattle.rlp.specs.{NumberText.number_text as text_in_base, Values.Value.bit}
use Rattle.rlp_transactions.specs.{Eip155.said_by, declared.eip155.Eip155.Eip155}
use Rattle.rlp_show.specs.{Value.{Steps, after, Content, Value, number, type_byte, bytes, text, empty_list}, declared.{sink.NumberKind.NumberKind, sink.BytesKind.BytesKind}}
use Rattle.rlp_show.specs.{declared.sink.NumberKind.TheVariants.{Decimal, LegacyV, Place, Quantity}, declared.sink.BytesKind.TheVariants.{Ip, Path, Sparse, Word}}

-- a number in decimal
abbrev pub number_text : ℕ → List ℕ
number_text n = text_in_base 10 n

-- a number in hexadecimal: `0x`, and lower-case digits without leading zeros
abbrev pub hex_text : ℕ → List ℕ
hex_text n = codes "0x" ++ text_in_base 16 n

-- bytes in hexadecimal: `0x`, and two lower-case digits for each byte
abbrev pub bytes_text : List ℕ → List ℕ
bytes_text b = codes "0x" ++ encode_lower b

-- bytes, or only their number if all bytes are zero
abbrev pub sparse_text : List ℕ → List ℕ
sparse_text b = if list_all (λ byte. byte == 0) b then decimal (length b) ++ codes " zero bytes" else bytes_text b

-- ---- what `v` says in the signature of a transaction without a type, as in EIP-155

-- the chain, if there is one, and the parity
abbrev pub said_text : Option ℕ → Bool → List ℕ
said_text (Some chain) parity = codes " (chain " ++ decimal chain ++ codes ", parity " ++ decimal (bit parity) ++ codes ")"
said_text None parity = codes " (parity " ++ decimal (bit parity) ++ codes ")"

-- what a number says, if it says something
abbrev pub meaning_text : Option Eip155 → List ℕ
meaning_text (Some x) = said_text x.chain_id x.y_parity
meaning_text None = []

-- `v` in decimal, and what it says
abbrev pub v_text : ℕ → List ℕ
v_text v = number_text v ++ meaning_text (said_by v)

-- the nibbles of a hex-prefix encoded path as hexadecimal digits: after the flag, which is the first digit, there is a 0 before an even number of nibbles
abbrev pub digits_text : List ℕ → List ℕ
digits_text [] = []
digits_text (first ∷ more) = if first / 16 % 2 == 1 then digit_glyph false (first % 16) ∷ encode_lower more else encode_lower more

abbrev pub nibbles_text : List ℕ → List ℕ
nibbles_text d = codes " (nibbles [" ++ digits_text d ++ codes "])"

-- a hex-prefix encoded path: its bytes, and its nibbles in brackets
abbrev pub path_text : List ℕ → List ℕ
path_text d = bytes_text d ++ nibbles_text d

-- an IPv4 address has 4 bytes, and an IPv6 address 16; other bytes are in hexadecimal
abbrev pub ip_text : List ℕ → List ℕ
ip_text d = if length d == 4 then ipv4_text d else if length d == 16 then ipv6_text (segments_of d) else bytes_text d

-- whether a byte is a lower-case letter or a digit
abbrev pub is_word_byte : ℕ → Bool
is_word_byte c = is_ascii_lowercase c || is_ascii_digit c

-- whether bytes begin with a lower-case letter
abbrev pub begins_with_letter : List ℕ → Bool
begins_with_letter [] = false
begins_with_letter (c ∷ cs) = is_ascii_lowercase c

-- whether bytes are a word: lower-case letters and digits, of which the first is a letter
abbrev pub is_word : List ℕ → Bool
is_word d = begins_with_letter d && list_all is_word_byte d

-- a word as it is, and other bytes in hexadecimal
abbrev pub word_text : List ℕ → List ℕ
word_text d = if is_word d then d else bytes_text d

-- the text of a number, and of bytes, of a kind
abbrev pub number_text_as : NumberKind → ℕ → List ℕ
number_text_as Decimal n = number_text n
number_text_as Place n = number_text n
number_text_as Quantity n = hex_text n
number_text_as LegacyV n = v_text n

abbrev pub bytes_text_as : BytesKind → List ℕ → List ℕ
bytes_text_as Sparse b = sparse_text b
bytes_text_as Path b = path_text b
bytes_text_as Word b = word_text b
bytes_text_as Ip b = ip_text b
bytes_text_as _ b = bytes_text b

-- the text of a content
abbrev pub content_text : Content → List ℕ
content_text (number kind n) = number_text_as kind n
content_text (type_byte n) = number_text n
content_text (bytes kind b) = bytes_text_as kind b
content_text (text t) = t
content_text empty_list = codes "[]"

-- one line
abbrev pub line : List ℕ → Content → List ℕ
line name c = name ++ codes ": " ++ content_text c ++ codes "\n"

-- how a text takes a value: a line for each content
abbrev pub line_steps : Steps (List ℕ)
line_steps = record {
  is_json = false;
  key = λ json s. s;
  put = λ name c s. s ++ line name c;
  bracket = λ bracket s. s;
}

-- the lines of a value with a name
abbrev pub lines : List ℕ → Value → List ℕ
lines name v = after line_steps name v []
