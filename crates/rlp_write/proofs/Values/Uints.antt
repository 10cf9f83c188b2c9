-- The bytes of a number without leading zeros are its digits.
use Rattle.std.proofs.Common.{◌≡◌, ◌≢◌, ℕ, List, [], ◌∷◌, length, drop, get_or, Fits, w8, arith, pos_of_ne-zero, refl, subst, le_refl}
use Rattle.std.specs.Int.Digits.{number_from_digits}
use Rattle.rlp_format.specs.{Format.Encoding.big_endian, Values.Value.FitsBytes}
use Rattle.rlp_format.proofs.Lemmas.Digits.{big_endian_zero, digits_again, digits_fit, bytes_held}

-- a leading zero doesn't change the number
pub zero_in_front : (ds : List ℕ) → get_or ds 0 0 ≡ 0 → number_from_digits 256 (drop 1 ds) ≡ number_from_digits 256 ds
zero_in_front ds e = grind arith

-- the digits of 0 are no bytes
pub none_significant : (ds : List ℕ) → length ds ≡ 0 → ds ≡ big_endian (number_from_digits 256 ds)
none_significant [] is = let h : big_endian 0 ≡ [] = big_endian_zero in cc
none_significant (d ∷ ds) is = absurd (omega arith)

-- bytes that don't begin with a zero are digits
pub all_significant : (ds : List ℕ) → ((i : ℕ) → Fits w8 (get_or ds i 0)) → get_or ds 0 0 ≢ 0 → ds ≡ big_endian (number_from_digits 256 ds)
all_significant [] bytes leads = absurd (leads refl)
all_significant (d ∷ ds) bytes leads = let h = digits_again d ds (bytes_held (d ∷ ds) bytes) (pos_of_ne-zero leads) in cc

-- the number that n bytes write has at most n bytes
pub bytes_fit : (ds : List ℕ) → ((i : ℕ) → Fits w8 (get_or ds i 0)) → FitsBytes (length ds) (number_from_digits 256 ds)
bytes_fit ds bytes = digits_fit (length ds) ds (bytes_held ds bytes) (le_refl (length ds))

pub uint_fits : (n : ℕ) (ds : List ℕ) → length ds ≡ n → FitsBytes (length ds) (number_from_digits 256 ds) → FitsBytes n (number_from_digits 256 ds)
uint_fits n ds many fits = subst (λ n. FitsBytes n (number_from_digits 256 ds)) many fits

pub ruleset uints = (zero_in_front, none_significant, all_significant, bytes_fit, uint_fits)
