-- Bytes and numbers as digits.
use Rattle.std.specs.Prelude.{ℕ, nat_lt, nat_eq, ◌+◌, ◌*◌, ◌^◌, ◌&&◌, Bool, if◌then◌else◌, List, length, drop, codes, Option, Some, None}
use Rattle.std.specs.{List.{starts_with, list_all}, Char.{digit_value, is_ascii_digit}, Result.result_ok, Str.Parse.digits_value}
use Rattle.hex.specs.Hex.{decode_of}

-- the digits of a text: the text without a leading `0x`
abbrev pub digits_of : List ℕ → List ℕ
digits_of text = if starts_with nat_eq text (codes "0x") then drop 2 text else text

-- the bytes of a text of hexadecimal digits, two for each byte, after an optional `0x`
abbrev pub bytes_in : List ℕ → Option (List ℕ)
bytes_in text = result_ok (decode_of (digits_of text))

-- whether a text is one or more decimal digits of a number below 2^64
abbrev pub is_number : List ℕ → Bool
is_number text = nat_lt 0 (length text) && (list_all is_ascii_digit text && nat_lt (digits_value 10 text) (2 ^ 64))

-- the number of a text, if it is decimal digits of a number below 2^64
abbrev pub number_in : List ℕ → Option ℕ
number_in text = if is_number text then Some (digits_value 10 text) else None

-- a number with one more digit at its end, if the byte is a digit and the number is still below 2^64
abbrev pub with_digit : ℕ → ℕ → Option ℕ
with_digit n c = if is_ascii_digit c && nat_lt (n * 10 + digit_value c) (2 ^ 64) then Some (n * 10 + digit_value c) else None
