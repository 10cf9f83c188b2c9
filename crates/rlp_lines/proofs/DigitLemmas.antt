-- Numbers and bytes as digits.
use Rattle.std.proofs.{Common.{◌≡◌, ◌≢◌, ℕ, ◌+◌, ◌*◌, ◌%◌, ◌^◌, ◌<◌, ◌≤◌, ◌&&◌, Bool, true, false, cond, nat_eq, nat_lt, IsTrue}, lemmas.List.Folds.{list_all_at}, lemmas.Str.{IsUtf8-from_ascii}}
use Rattle.std.proofs.Common.{List, [], ◌∷◌, ◌++◌, length, take, drop, Option, Some, None, Result, Ok, Err, refl, subst, sym, ap, ◌∙◌, append_assoc}
use Rattle.std.proofs.{Common.{arith, take-add, take-append-drop, zero, suc, get_or, slice_index, slice_index_or, ◌/◌, rules, IsUtf8}, lemmas.Bool.Decides.nat_tests}
use Rattle.std.specs.{Simd.{first_chunks}, List.list_all, Char.{digit_value, is_ascii_digit}, Str.Parse.digits_value_after, Option.IsSomeAnd, Result.result_ok}
use Rattle.std.proofs.{lemmas.List.Sums.{AllPass-from_list_all, list_all-from_AllPass}, lemmas.List.{append-nil, drop-drop, drop_all}}
use Rattle.rlp_format.proofs.HexDigits.{digits_append, digits_are_ascii}
use Rattle.hex.specs.Hex.{encode_with, encode_lower, lower_digits, decode_of, decode_pairs, digit_or_error, hex_digit_value, is_hex_digit, pair_value}
use Rattle.hex.specs.declared.error.FromHexError.{FromHexError}
use Rattle.hex.proofs.{Pairs.{drop-pair, prepend}, HexLemmas.{decode_of-ok, decode_of-digits, decode_of-odd}}
use Rattle.rlp_lines.specs.Digits.{with_digit}

-- the number that digits write when they follow those of n
abbrev pub number_after : ℕ → List ℕ → Option ℕ
number_after n text = cond (list_all is_ascii_digit text && nat_lt (digits_value_after 10 n text) (2 ^ 64)) (Some (digits_value_after 10 n text)) None

both_true : (a b : Bool) (n m : ℕ) → cond (a && b) (Some n) None ≡ Some m → (a ≡ true) × (b ≡ true) × (n ≡ m)
both_true a b n m e = grind arith

not_both : (a b rest more : Bool) (n m : ℕ) → cond (a && b) (Some n) None ≡ None → (b ≡ false → more ≡ false) → cond ((a && rest) && more) (Some m) None ≡ None
not_both a b rest more n m e f = grind arith

digits_value_after-ge : (n : ℕ) (text : List ℕ) → n ≤ digits_value_after 10 n text
digits_value_after-ge n [] = omega arith
digits_value_after-ge n (c ∷ text) = omega (arith, digits_value_after-ge (n * 10 + digit_value c) text)

too_large : (n m : ℕ) → n ≤ m → nat_lt n (2 ^ 64) ≡ false → nat_lt m (2 ^ 64) ≡ false
too_large n m h e = grind (arith, nat_tests)

pub number_after-none : (n c : ℕ) (rest text : List ℕ) → rest ≡ c ∷ text → with_digit n c ≡ None → number_after n rest ≡ None
number_after-none n c rest text is e = grind (arith, not_both, too_large, digits_value_after-ge)

number_after-nil : (n : ℕ) → n < 2 ^ 64 → number_after n [] ≡ Some n
number_after-nil n h =
    let small : nat_lt n (2 ^ 64) ≡ true = grind (arith, nat_tests) in
    ap (λ (b : Bool). cond (true && b) (Some n) None) small

no_digits : (text : List ℕ) → length text ≡ 0 → text ≡ []
no_digits [] h = refl
no_digits (c ∷ text) h = absurd (omega arith)

pub number_after-end : (n : ℕ) (text : List ℕ) → n < 2 ^ 64 → length text ≡ 0 → number_after n text ≡ Some n
number_after-end n text small h = ap (number_after n) (no_digits text h) ∙ number_after-nil n small

small : (a b : Bool) (k m : ℕ) → (b ≡ true → k < 2 ^ 64) → cond (a && b) (Some k) None ≡ Some m → m < 2 ^ 64
small a b k m h e = grind (arith, both_true)

-- a number with one more digit is below 2^64
pub small_digit : (n c m : ℕ) → with_digit n c ≡ Some m → m < 2 ^ 64
small_digit n c m e = small (is_ascii_digit c) (nat_lt (n * 10 + digit_value c) (2 ^ 64)) (n * 10 + digit_value c) m (λ less. grind (arith, nat_tests)) e

-- ---- bytes

-- the byte of two digits
pub pair_read : (high low x y i : ℕ) → hex_digit_value high ≡ Some x → hex_digit_value low ≡ Some y → pair_value high low i ≡ Ok (x * 16 + y)
pair_read high low x y i h l = rw (ap (digit_or_error high i) h, ap (digit_or_error low (i + 1)) l) refl

-- the digits in a place, as a pair
pair_of : (k i : ℕ) (xs : List ℕ) → i < k → get_or (first_chunks 2 k xs) i [] ≡ take 2 (drop (2 * i) xs)
pair_of zero i xs lt = absurd (omega (arith, lt))
pair_of (suc k) zero xs lt = refl
pair_of (suc k) (suc i) xs lt =
    let next : 2 + 2 * i ≡ 2 * suc i = omega arith in
    pair_of k i (drop 2 xs) (omega (arith, lt)) ∙ ap (take 2) (drop-drop (2 * i) 2 xs ∙ ap (λ (n : ℕ). drop n xs) next)

pub pair_at : (digits : List ℕ) (pairs : List (List ℕ)) (i : ℕ) → pairs ≡ first_chunks 2 (length digits / 2) digits → i < length digits / 2
    → slice_index_or pairs i [] ≡ slice_index digits (2 * i) ∷ slice_index digits (2 * i + 1) ∷ []
pair_at digits pairs i is lt = ap (λ p. get_or p i []) is ∙ pair_of (length digits / 2) i digits lt ∙ ap (take 2) (drop-pair digits i (omega arith))

-- both digits in a place are digits
pub both_digits : (digits : List ℕ) (i : ℕ) → i < length digits / 2 → IsTrue (list_all is_hex_digit digits)
    → IsTrue (list_all is_hex_digit (slice_index digits (2 * i) ∷ slice_index digits (2 * i + 1) ∷ []))
both_digits digits i lt all = grind (arith, list_all_at)

-- all pairs of digits are decoded
pub decoded : (digits out : List ℕ) (i n : ℕ) → length digits ≤ 2 * i → i ≡ n
    → decode_pairs 0 digits ≡ prepend (take i out) (decode_pairs (2 * i) (drop (2 * i) digits)) → decode_pairs 0 digits ≡ Ok (take n out)
unfolding decode_pairs
decoded digits out i n none is so_far = grind (arith, prepend, drop_all, append-nil)

-- the result of reading no digits
pub read-nothing : (digits : List ℕ) → true ≡ nat_eq (length digits) 0 → result_ok (decode_of digits) ≡ Some []
unfolding decode_pairs
read-nothing digits e = grind (arith, nat_tests)

-- digits of which two write a byte write some bytes
pub read-some : (digits : List ℕ) → length digits % 2 ≡ 0 → false ≡ nat_eq (length digits) 0 → IsTrue (list_all is_hex_digit digits)
    → IsSomeAnd (result_ok (decode_of digits)) (λ bytes. bytes ≢ [])
read-some digits even test all =
    let some : 0 < length digits = grind (arith, nat_tests) in
    let (bytes, is) = decode_of-digits digits even (AllPass-from_list_all is_hex_digit digits all) in
    let long = (decode_of-ok digits bytes is).2 in
    let P : Result (List ℕ) FromHexError → Type 0 = λ r. IsSomeAnd (result_ok r) (λ bytes. bytes ≢ []) in
    subst P (sym is) (λ none. absurd (omega (arith, long, ap length none)))

-- the result of reading an odd number of digits
pub read-odd : (digits : List ℕ) → (length digits % 2 ≡ 0 → ⊥) → result_ok (decode_of digits) ≡ None
read-odd digits odd = ap result_ok (decode_of-odd digits (omega arith))

refused_by : (digits : List ℕ) (r : Result (List ℕ) FromHexError) → decode_of digits ≡ r → list_all is_hex_digit digits ≡ false → result_ok r ≡ None
refused_by digits (Ok bytes) is other =
    let all : list_all is_hex_digit digits ≡ true = list_all-from_AllPass is_hex_digit digits (decode_of-ok digits bytes is).1 in absurd (let no : ⊥ = cc in no)
refused_by digits (Err e) is other = refl

-- the result of reading a text that isn't all digits
pub read-no_digits : (digits : List ℕ) → list_all is_hex_digit digits ≡ false → result_ok (decode_of digits) ≡ None
read-no_digits digits other = refused_by digits (decode_of digits) refl other

-- ---- printing

-- digits are text
pub digits_are_text : (bytes digits : List ℕ) → digits ≡ encode_lower bytes → IsUtf8 digits
digits_are_text bytes digits is = subst IsUtf8 (sym is) (IsUtf8-from_ascii (encode_lower bytes) (digits_are_ascii bytes))

pub printed-none : (old bytes : List ℕ) → old ≡ old ++ encode_lower (take 0 bytes)
unfolding encode_with
printed-none old bytes = sym (append-nil old)

-- the digits of the first n bytes, and then of k more
pub printed-more : (old before after bytes rest front : List ℕ) (n k : ℕ) → before ≡ old ++ encode_lower (take n bytes) → rest ≡ drop n bytes
    → front ≡ take k rest → after ≡ before ++ encode_lower front → after ≡ old ++ encode_lower (take (n + k) bytes)
printed-more old before after bytes rest front n k so_far left is grown = grind (arith, append_assoc, digits_append, take-add)

-- the digits of the first n bytes, and then of the rest
pub printed-all : (old before after bytes rest : List ℕ) (n : ℕ) → before ≡ old ++ encode_lower (take n bytes) → rest ≡ drop n bytes
    → after ≡ before ++ encode_lower rest → after ≡ old ++ encode_lower bytes
printed-all old before after bytes rest n so_far left grown = grind (arith, append_assoc, digits_append, take-append-drop)
