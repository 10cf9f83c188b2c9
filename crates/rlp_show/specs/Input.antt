-- The bytes of a record that is given as text.
use Rattle.std.specs.{Prelude.{ℕ, Bool, nat_eq, ◌||◌, List, drop, codes, if◌then◌else◌, Option, Some, None}, List.starts_with, Result.result_ok}
use Rattle.base64.specs.{Engines.url_safe_no_pad, GeneralPurpose.decode_of}
use Rattle.rlp_lines.specs.Digits.{bytes_in}

-- the bytes that have this URL-safe base64 without padding, if it is such base64
unfoldable pub base64_bytes : List ℕ → Option (List ℕ)
base64_bytes text = result_ok (decode_of url_safe_no_pad text)

-- whether a text is the text of a node record: it begins with `enr:`
abbrev pub is_node_text : List ℕ → Bool
is_node_text text = starts_with nat_eq text (codes "enr:")

-- whether an argument is a record: it begins with `0x`, or is the text of a node record
abbrev pub is_record : List ℕ → Bool
is_record word = starts_with nat_eq word (codes "0x") || is_node_text word

-- the bytes of digits, or else the bytes of the text of a node record
abbrev pub bytes_or_node : List ℕ → Option (List ℕ) → Option (List ℕ)
bytes_or_node text (Some bytes) = Some bytes
bytes_or_node text None = if is_node_text text then base64_bytes (drop 4 text) else None

-- the bytes of a record that is given as digits or as the text of a node record
abbrev pub record_bytes : List ℕ → Option (List ℕ)
record_bytes text = bytes_or_node text (bytes_in text)
