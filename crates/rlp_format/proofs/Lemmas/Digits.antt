-- `big_endian` writes a number's digits: they denote the number, begin with no zero, and are the only digits that do both.
use Rattle.std.proofs.Common.{◌≡◌, ℕ, zero, suc, ◌+◌, ◌*◌, ◌/◌, ◌%◌, ◌^◌, ◌<◌, ◌≤◌, List, [], ◌∷◌, ◌++◌, length, get_or, refl, false}
use Rattle.std.proofs.Common.{Fits, w8, eqb, ne_eqb, sym, ap, ◌∙◌, arith, append_assoc, length-append, append-nil, zero-add}
use Rattle.std.proofs.lemmas.Int.Digits.{number_lt, number_digits_of, first_digits_of, length-digits_of-le, all_below_base_digits_of, digits_of_step}
use Rattle.std.proofs.{lemmas.Nat.pow-add, Math.Nat.{pow-suc, pow-le-pow_right}}
use Rattle.std.proofs.{lemmas.List.Elements.{All-from_get_or, All-from_recursion, recursion_from_All}, lemmas.Bool.cond-false}
use Rattle.std.specs.Int.Digits.{digits_of, digits_with_fuel, number_from_digits, number_from_digits_after, AllBelowBase}
use Rattle.std.proofs.lemmas.Grind.{common_steps}
use Rattle.rlp_format.specs.{Format.Encoding.{big_endian, big_endian_within, AreBytes}, Values.Value.FitsBytes}

-- digits by a number of turns, in the words of the standard library
pub big_endian_within_is : (turns n : ℕ) → big_endian_within turns n ≡ digits_with_fuel 256 turns n
big_endian_within_is zero n = refl
big_endian_within_is (suc turns) zero = refl
big_endian_within_is (suc turns) (suc n) =
    let positive : eqb (suc n) 0 ≡ false = ne_eqb (suc n) 0 (λ e. omega arith) in
    ap (λ ds. ds ++ (suc n % 256) ∷ []) (big_endian_within_is turns (suc n / 256))
    ∙ sym (cond-false (eqb (suc n) 0) [] (digits_with_fuel 256 turns (suc n / 256) ++ (suc n % 256) ∷ []) positive)

-- digits to the base 256, in the words of the standard library
pub big_endian_is : (n : ℕ) → big_endian n ≡ digits_of 256 n
unfolding big_endian
big_endian_is n = big_endian_within_is n n

-- the value of be(n) is n
pub big_endian_value : (n : ℕ) → number_from_digits 256 (big_endian n) ≡ n
big_endian_value n = ap (number_from_digits 256) (big_endian_is n) ∙ number_digits_of 256 n (omega arith)

-- numbers with the same digits are equal
pub big_endian_same : (m n : ℕ) → big_endian m ≡ big_endian n → m ≡ n
big_endian_same m n e = sym (big_endian_value m) ∙ ap (number_from_digits 256) e ∙ big_endian_value n

-- no leading zero
pub big_endian_first : (n : ℕ) → 0 < n → 0 < get_or (big_endian n) 0 0
big_endian_first n h = rw (big_endian_is) (first_digits_of 256 n (omega arith) h)

-- each digit is a byte
pub big_endian_bytes : (n : ℕ) → AreBytes (big_endian n)
big_endian_bytes n = All-from_recursion (λ byte. byte < 2 ^ 8) (big_endian n) (rw (big_endian_is) (all_below_base_digits_of 256 n (omega arith)))

-- a number below 2^64 has at most eight digits
pub big_endian_length : (n : ℕ) → n < 2 ^ 64 → length (big_endian n) ≤ 8
big_endian_length n h = let small : n < 256 ^ 8 = h in rw (big_endian_is) (length-digits_of-le 256 8 n (omega arith) small)

-- the last digit, and those before it
pub big_endian_step : (n : ℕ) → 0 < n → big_endian n ≡ big_endian (n / 256) ++ (n % 256) ∷ []
big_endian_step n h = big_endian_is n ∙ digits_of_step 256 n (omega arith) h ∙ ap (λ ds. ds ++ (n % 256) ∷ []) (sym (big_endian_is (n / 256)))

-- a number above 0 has a digit
pub big_endian_some : (n : ℕ) → 0 < n → 0 < length (big_endian n)
big_endian_some n h = rw (big_endian_step n h) (simp length-append (omega arith))

-- one more digit at the end
pub big_endian_push : (n d : ℕ) → 0 < n → d < 256 → big_endian (n * 256 + d) ≡ big_endian n ++ d ∷ []
big_endian_push n d h l = grind (arith, big_endian_step)

-- more digits after those of n
pub big_endian_after : (n : ℕ) (ds : List ℕ) → 0 < n → AllBelowBase 256 ds → big_endian (number_from_digits_after 256 n ds) ≡ big_endian n ++ ds
big_endian_after n [] h all = sym (append-nil (big_endian n))
big_endian_after n (d ∷ ds) h (low, all) =
    let above : 0 < n * 256 + d = omega arith in
    big_endian_after (n * 256 + d) ds above all ∙ ap (λ s. s ++ ds) (big_endian_push n d h low) ∙ append_assoc (big_endian n) (d ∷ []) ds

-- 0 has no digits
pub big_endian_zero : big_endian 0 ≡ []
unfolding big_endian
big_endian_zero = refl

-- a number below the base is its only digit
pub big_endian_digit : (d : ℕ) → 0 < d → d < 256 → big_endian d ≡ d ∷ []
big_endian_digit d h l = grind (arith, big_endian_step, big_endian_zero)

-- bytes that begin with no zero are the digits of the number that they write
pub big_endian_again : (d : ℕ) (ds : List ℕ) → 0 < d → AllBelowBase 256 (d ∷ ds) → big_endian (number_from_digits 256 (d ∷ ds)) ≡ d ∷ ds
big_endian_again d ds h (low, all) = rw (zero-add d) (big_endian_after d ds h all ∙ ap (λ s. s ++ ds) (big_endian_digit d h low))

-- ---- digits that bytes hold

-- a byte is eight bits
pub pow-bytes : (width : ℕ) → 256 ^ width ≡ 2 ^ (8 * width)
pow-bytes zero = refl
pow-bytes (suc width) =
    let more : 8 * suc width ≡ 8 * width + 8 = omega arith in
    pow-suc 256 width ∙ ap (λ p. p * 256) (pow-bytes width) ∙ sym (pow-add 2 (8 * width) 8) ∙ ap (λ k. 2 ^ k) (sym more)

-- digits that are at most `width` bytes write a number of that width
pub digits_fit : (width : ℕ) (digits : List ℕ) → AreBytes digits → length digits ≤ width → FitsBytes width (number_from_digits 256 digits)
digits_fit width digits bytes few = grind (arith, number_lt, recursion_from_All, pow-le-pow_right, pow-bytes)

-- bytes that begin with no zero are the digits of the number that they write
pub digits_again : (first : ℕ) (rest : List ℕ) → AreBytes (first ∷ rest) → 0 < first → big_endian (number_from_digits 256 (first ∷ rest)) ≡ first ∷ rest
digits_again first rest bytes leading = big_endian_again first rest leading (recursion_from_All (λ byte. byte < 2 ^ 8) (first ∷ rest) bytes)

-- no digits write 0
pub none_is_zero : (width : ℕ) (digits : List ℕ) → length digits < 1 → FitsBytes width (number_from_digits 256 digits)
    × (big_endian (number_from_digits 256 digits) ≡ digits)
none_is_zero width digits h = grind (arith, common_steps, digits_fit, big_endian_zero)

-- what a slice of `u8` holds, as `type_inv` says it
pub bytes_held : (b : List ℕ) → ((i : ℕ) → Fits w8 (get_or b i 0)) → AreBytes b
bytes_held b fits = All-from_get_or (λ byte. byte < 2 ^ 8) b 0 (λ i h. omega (arith, fits i))
