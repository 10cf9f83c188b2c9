-- Digits of numbers as they are read and written: the number of two parts, and the last bytes of a number, highest first.
use Rattle.std.proofs.Common.{◌≡◌, ℕ, zero, suc, ◌+◌, ◌*◌, ◌/◌, ◌%◌, ◌^◌, ◌<◌, ◌≤◌, List, [], ◌∷◌, ◌++◌, length, take, drop, length-take, length-drop}
use Rattle.std.proofs.Common.{take-append-drop, refl, sym, ap, ◌∙◌, arith}
use Rattle.std.proofs.{Math.Nat.{pow-suc, pow-succ', one-le-pow, div-div-eq-div-mul, pow-le-pow_right}, lemmas.Nat.{div_below, le-div, leading_top}}
use Rattle.std.proofs.{lemmas.List.Elements.All-take, lemmas.Int.Digits.number_after_append}
use Rattle.std.specs.{Int.Digits.{number_from_digits, number_from_digits_after}, Int.{byte_at, bytes_high_first}}
use Rattle.std.specs.Int.Count.{count_leading_zeros, leading_of_zero}
use Rattle.rlp_format.specs.Format.Encoding.{big_endian, AreBytes}
use Rattle.rlp_format.proofs.Lemmas.Digits.{big_endian_zero, big_endian_digit, big_endian_step, digits_fit, pow-bytes}

-- ---- the number that digits write

-- fewer than eight bytes write a number below 2^56
pub number_below : (s : List ℕ) (i : ℕ) → AreBytes s → i < 8 → number_from_digits 256 (take i s) < 2 ^ 56
number_below s i bytes few = digits_fit 7 (take i s) (All-take (λ byte. byte < 2 ^ 8) i s bytes) (omega (arith, length-take i s))

moved : (n d p q a b : ℕ) → a ≡ (n * 256 + d) * p + q → b ≡ (0 * 256 + d) * p + q → a ≡ n * (p * 256) + b
moved n d p q a b e f = grind arith

number_after : (n : ℕ) (ds : List ℕ) → number_from_digits_after 256 n ds ≡ n * 256 ^ length ds + number_from_digits 256 ds
number_after n [] = omega arith
number_after n (d ∷ ds) =
    let more : number_from_digits_after 256 (n * 256 + d) ds ≡ (n * 256 + d) * 256 ^ length ds + number_from_digits 256 ds = number_after (n * 256 + d) ds in
    let first : number_from_digits_after 256 (0 * 256 + d) ds ≡ (0 * 256 + d) * 256 ^ length ds + number_from_digits 256 ds = number_after (0 * 256 + d) ds in
    let power : 256 ^ suc (length ds) ≡ 256 ^ length ds * 256 = pow-suc 256 (length ds) in
    let powers : n * 256 ^ suc (length ds) ≡ n * (256 ^ length ds * 256) = ap (λ p. n * p) power in
    moved n d (256 ^ length ds) (number_from_digits 256 ds) (number_from_digits_after 256 (n * 256 + d) ds)
    (number_from_digits_after 256 (0 * 256 + d) ds) more first
    ∙ ap (λ p. p + number_from_digits 256 (d ∷ ds)) (sym powers)

-- the number of more than eight digits, by that of the last eight and that of the others
pub number-halves : (ds : List ℕ) (k : ℕ) → k + 8 ≡ length ds → number_from_digits 256 ds ≡ number_from_digits 256 (take k ds) * 18446744073709551616
    + number_from_digits 256 (drop k ds)
number-halves ds k e =
    let low : length (drop k ds) ≡ 8 = omega (arith, length-drop k ds) in
    ap (number_from_digits 256) (sym (take-append-drop k ds)) ∙ number_after_append 256 0 (take k ds) (drop k ds)
    ∙ number_after (number_from_digits 256 (take k ds)) (drop k ds)
    ∙ ap (λ n. number_from_digits 256 (take k ds) * 256 ^ n + number_from_digits 256 (drop k ds)) low

pub ruleset halves = (number-halves)

-- ---- the bytes of a number, and the leading zeros before its digits

-- a byte of n is the one below it of n / 256
byte_above : (k n : ℕ) → byte_at (suc k) n ≡ byte_at k (n / 256)
byte_above zero n = refl
byte_above (suc k) n =
    ap (λ p. n / p % 256) (pow-succ' 256 (suc k)) ∙ ap (λ q. q % 256) (sym (div-div-eq-div-mul n 256 (256 ^ suc k)))

high_first_step : (k n : ℕ) → bytes_high_first (suc k) n ≡ bytes_high_first k (n / 256) ++ (n % 256) ∷ []
high_first_step zero n = refl
high_first_step (suc k) n = let below = high_first_step k n in let above = byte_above k n in cc

length-bytes_high_first : (k n : ℕ) → length (bytes_high_first k n) ≡ k
length-bytes_high_first zero n = refl
length-bytes_high_first (suc k) n = ap suc (length-bytes_high_first k n)

-- if the number of bytes is that of the digits of n, the bytes are the digits
digits_high_first : (k n : ℕ) → 256 ^ k ≤ n → n < 256 ^ suc k → bytes_high_first (suc k) n ≡ big_endian n
digits_high_first zero n low high =
    let whole : n % 256 ≡ n = omega arith in
    ap (λ d. d ∷ []) whole ∙ sym (big_endian_digit n (omega arith) (omega arith))
digits_high_first (suc k) n low high =
    let below : 256 ^ k ≤ n / 256 = le-div (256 ^ k) n 256 (omega arith) (omega (arith, pow-suc 256 k)) in
    let above : n / 256 < 256 ^ suc k = div_below n 256 (256 ^ suc k) (omega arith) (omega (arith, pow-suc 256 (suc k))) in
    let some : 0 < n = omega (arith, pow-suc 256 k, one-le-pow k 256 (omega arith)) in
    high_first_step (suc k) n ∙ ap (λ ds. ds ++ (n % 256) ∷ []) (digits_high_first k (n / 256) below above) ∙ sym (big_endian_step n some)

drop-bytes_high_first : (z k m n : ℕ) → z + k ≡ m → drop z (bytes_high_first m n) ≡ bytes_high_first k n
drop-bytes_high_first zero k m n e = let same : m ≡ k = omega arith in ap (λ j. bytes_high_first j n) same
drop-bytes_high_first (suc z) k zero n e = absurd (omega arith)
drop-bytes_high_first (suc z) k (suc m) n e = drop-bytes_high_first z k m n (omega arith)

-- the leading zero bytes of a number, by the count of its leading zero bits
record LeadingBytes (m n : ℕ) : Type 0 where
  pub digits : drop (count_leading_zeros (8 * m) n / 8) (bytes_high_first m n) ≡ big_endian n
  pub len : count_leading_zeros (8 * m) n / 8 + length (big_endian n) ≡ m

some_bytes : (m n : ℕ) → 0 < n → n < 2 ^ (8 * m) → LeadingBytes m n
some_bytes m n some small =
    let top = leading_top (8 * m) n some small in
    let j = top.0 in
    let at : count_leading_zeros (8 * m) n + suc j ≡ 8 * m = top.1 in
    let zeros = count_leading_zeros (8 * m) n / 8 in
    let k = j / 8 in
    let all : zeros + suc k ≡ m = omega arith in
    let least : 256 ^ k ≤ n = let le : 2 ^ (8 * k) ≤ 2 ^ j = pow-le-pow_right (omega arith) (omega arith) in omega (arith, le, pow-bytes k, top.2) in
    let below : n < 256 ^ suc k = let le : 2 ^ suc j ≤ 2 ^ (8 * suc k) = pow-le-pow_right (omega arith) (omega arith) in
    omega (arith, le, pow-bytes (suc k), top.3) in
    let digits : bytes_high_first (suc k) n ≡ big_endian n = digits_high_first k n least below in
    let number : length (big_endian n) ≡ suc k = ap length (sym digits) ∙ length-bytes_high_first (suc k) n in
    record { digits = drop-bytes_high_first zeros (suc k) m n all ∙ digits; len = omega (arith, number, all) }

no_bytes : (m : ℕ) → 8 * m / 8 ≡ m
no_bytes m = omega arith

drop_bytes : (m n : ℕ) → drop m (bytes_high_first m n) ≡ []
drop_bytes m n = drop-bytes_high_first m 0 m n (omega arith)

leading_bytes : (m n : ℕ) → n < 2 ^ (8 * m) → LeadingBytes m n
leading_bytes m zero small =
    let all : count_leading_zeros (8 * m) 0 ≡ 8 * m = leading_of_zero (8 * m) in
    let bytes : count_leading_zeros (8 * m) 0 / 8 ≡ m = ap (λ z. z / 8) all ∙ no_bytes m in
    record {
      digits = ap (λ z. drop z (bytes_high_first m 0)) bytes ∙ drop_bytes m 0
          ∙ sym big_endian_zero;
      len = omega (arith, bytes, ap length big_endian_zero);
    }
leading_bytes m (suc n) small = some_bytes m (suc n) (omega arith) small

-- after the leading zeros, the eight bytes of a number are its digits
pub leading_digits : (n : ℕ) → n < 2 ^ 64 → drop (count_leading_zeros 64 n / 8) (bytes_high_first 8 n) ≡ big_endian n
leading_digits n small = (leading_bytes 8 n small).digits

-- the leading zeros and the digits are eight bytes
pub leading_len : (n : ℕ) → n < 2 ^ 64 → count_leading_zeros 64 n / 8 + length (big_endian n) ≡ 8
leading_len n small = (leading_bytes 8 n small).len

-- the same for a number of sixteen bytes
pub wide_leading_digits : (n : ℕ) → n < 2 ^ 128 → drop (count_leading_zeros 128 n / 8) (bytes_high_first 16 n) ≡ big_endian n
wide_leading_digits n small = (leading_bytes 16 n small).digits

-- the leading zeros and the digits are sixteen bytes
pub wide_leading_len : (n : ℕ) → n < 2 ^ 128 → count_leading_zeros 128 n / 8 + length (big_endian n) ≡ 16
wide_leading_len n small = (leading_bytes 16 n small).len

pub ruleset leading = (leading_digits, leading_len, wide_leading_digits, wide_leading_len)
