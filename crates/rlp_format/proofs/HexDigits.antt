-- Bytes as hexadecimal digits.
use Rattle.std.proofs.Common.{◌≡◌, ℕ, ◌+◌, ◌/◌, ◌%◌, ◌<◌, false, List, [], ◌∷◌, ◌++◌, length, take, get_or, slice_index, refl, ap, arith}
use Rattle.std.proofs.{Common.{IsAscii, rules}, lemmas.List.{take_more}, lemmas.List.Elements.{All-from_recursion}, lemmas.Str.Ascii.{IsAscii-from_all}}
use Rattle.std.specs.Fmt.{digit_glyph}
use Rattle.hex.specs.Hex.{encode_lower, encode_with, lower_digits}
use Rattle.hex.proofs.HexLemmas.{IsAscii-encode_with}

-- the digit of a number below 16
pub digit_is : (d : ℕ) → d < 16 → digit_glyph false d ≡ slice_index lower_digits d
digit_is d small = grind arith

-- the digits of one byte
pub digits_of_byte : (b : ℕ) → b < 256 → digit_glyph false (b / 16) ∷ digit_glyph false (b % 16) ∷ [] ≡ encode_lower (b ∷ [])
unfolding encode_with
digits_of_byte b small = rw (digit_is (b / 16) (omega arith), digit_is (b % 16) (omega arith)) refl

-- digits are ASCII
pub digits_are_ascii : (bytes : List ℕ) → IsAscii (encode_lower bytes)
digits_are_ascii bytes = IsAscii-encode_with lower_digits bytes (IsAscii-from_all lower_digits (All-from_recursion (λ d. d < 128) lower_digits (search rules)))

-- the digits of some bytes, and of more
pub digits_append : (xs ys : List ℕ) → encode_lower xs ++ encode_lower ys ≡ encode_lower (xs ++ ys)
unfolding encode_with
digits_append [] ys = refl
digits_append (b ∷ xs) ys = ap (λ (r : List ℕ). slice_index lower_digits (b / 16) ∷ slice_index lower_digits (b % 16) ∷ r) (digits_append xs ys)

-- one more byte as two digits
pub digits_of_more : (bytes : List ℕ) (i b : ℕ) → i < length bytes → get_or bytes i 0 ≡ b → b < 256
    → encode_lower (take i bytes) ++ (digit_glyph false (b / 16) ∷ digit_glyph false (b % 16) ∷ []) ≡ encode_lower (take (i + 1) bytes)
digits_of_more bytes i b less is small = grind (arith, digits_of_byte, digits_append, take_more)
