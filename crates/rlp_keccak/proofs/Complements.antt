-- Complements of lanes
use Rattle.std.proofs.Common.{◌≡◌, ℕ, ◌+◌, ◌-◌, ◌*◌, ◌/◌, ◌%◌, ◌^◌, ◌<◌, List, ◌∷◌, slice_index, refl, ap, sym, ◌∙◌, arith, bit_and, bit_or, bit_xor}
use Rattle.std.specs.{Int.{w64, bit_not, rotate_left}, Int.Bits.{and_lt, or_self, xor_zero_r, xor_assoc, xor_add_and}}
use Rattle.std.proofs.lemmas.Nat.{xor_comm, and_mask, xor_lt, or_lt, mod-pow-add, shl-shr, or_shifted, shr_below, xor_mod, xor_shr, xor_block}
use Rattle.std.proofs.{Math.Nat.{mul-mod_left, add-zero}, lemmas.Nat.Bits.{bit_at_and, bit_at_or, bit_at_xor, bit_at_ones, bit_at-lt, same_from_bits_below}}
use Rattle.rlp_keccak.specs.{Keccak.{parity, theta, rho, pi}, Complements.{complement, masked, masked_by_theta, masked_by_pi}}

-- `!n`
pub not_is : (n : ℕ) → n < 2 ^ 64 → bit_not w64 n ≡ complement n
unfolding complement
not_is n low = omega (arith, xor_add_and n (2 ^ 64 - 1), and_mask n 64)

pub xor_l : (a b : ℕ) → bit_xor (complement a) b ≡ complement (bit_xor a b)
unfolding complement
xor_l a b = xor_assoc a (2 ^ 64 - 1) b ∙ ap (bit_xor a) (xor_comm (2 ^ 64 - 1) b) ∙ sym (xor_assoc a b (2 ^ 64 - 1))

pub xor_r : (a b : ℕ) → bit_xor a (complement b) ≡ complement (bit_xor a b)
unfolding complement
xor_r a b = sym (xor_assoc a b (2 ^ 64 - 1))

pub twice : (a : ℕ) → complement (complement a) ≡ a
unfolding complement
twice a = xor_assoc a (2 ^ 64 - 1) (2 ^ 64 - 1) ∙ xor_zero_r a

-- De Morgan's law
pub or_is : (a b : ℕ) → a < 2 ^ 64 → b < 2 ^ 64 → bit_or a b ≡ complement (bit_and (complement a) (complement b))
unfolding complement
or_is a b la lb =
    let ones = 2 ^ 64 - 1 in
    let both : ℕ = bit_and (bit_xor a ones) (bit_xor b ones) in
    same_from_bits_below 64 _ _ (or_lt 64 a b la lb) (xor_lt 64 both ones (and_lt 64 _ _ (xor_lt 64 a ones la (omega arith)) (xor_lt 64 b ones lb (omega arith))) (omega arith))
    (λ i low. omega (arith, bit_at_or a b i, bit_at_xor both ones i, bit_at_and (bit_xor a ones) (bit_xor b ones) i, bit_at_xor a ones i, bit_at_xor b ones i, bit_at_ones 64 i low, bit_at-lt a i, bit_at-lt b i))

pub ruleset complements = (not_is, or_is, xor_l, xor_r, twice)

-- one lane more
pub next : {x y : ℕ} {xs ys : List ℕ} → x ≡ y → xs ≡ ys → x ∷ xs ≡ y ∷ ys
next p q t = p t ∷ q t

-- a number of j + k bits that is rotated by k places
abbrev turned : ℕ → ℕ → ℕ → ℕ
turned n j k = n % 2 ^ j * 2 ^ k + n / 2 ^ j

turned_is : (n j k : ℕ) → n < 2 ^ (k + j) → bit_or (n * 2 ^ k % 2 ^ (j + k)) (n / 2 ^ j) ≡ turned n j k
turned_is n j k low =
    let up : n * 2 ^ k % 2 ^ (j + k) ≡ n % 2 ^ j * 2 ^ k = mod-pow-add (n * 2 ^ k) j k ∙ rw (shl-shr n k, mul-mod_left n (2 ^ k)) (add-zero _) in
    rw up (or_shifted (n % 2 ^ j) k (n / 2 ^ j) (shr_below n k j low))

rotated : (n j k : ℕ) → k + j ≡ 64 → j + k ≡ 64 → turned (2 ^ 64 - 1) j k ≡ 2 ^ 64 - 1 → n < 2 ^ 64
    → bit_or (complement n * 2 ^ k % 2 ^ 64) (complement n / 2 ^ j) ≡ complement (bit_or (n * 2 ^ k % 2 ^ 64) (n / 2 ^ j))
unfolding complement
rotated n j k kj jk all low =
    let ones = 2 ^ 64 - 1 in
    let is : (m : ℕ) → m < 2 ^ 64 → bit_or (m * 2 ^ k % 2 ^ 64) (m / 2 ^ j) ≡ turned m j k =
    λ m lm. ap (λ (s : ℕ). bit_or (m * 2 ^ k % 2 ^ s) (m / 2 ^ j)) (sym jk) ∙ turned_is m j k (rw kj lm) in
    let apart = xor_block k (n % 2 ^ j) (ones % 2 ^ j) (n / 2 ^ j) (ones / 2 ^ j) (shr_below n k j (rw kj low)) (shr_below ones k j (rw kj (omega arith))) in
    is (bit_xor n ones) (xor_lt 64 n ones low (omega arith)) ∙ rw (xor_mod n ones j, xor_shr n ones j, ← apart, all, is n low) refl

-- where nothing is rotated
still : (n : ℕ) → n < 2 ^ 64 → rotate_left w64 n 0 ≡ n
still n low = let up : n * 1 % 2 ^ 64 ≡ n = omega arith in let down : n / 1 ≡ n = omega arith in rw (up, down) (or_self n)

-- θ of a state in which some lanes are complements
both : (c d : ℕ) → d < 2 ^ 64 → bit_xor (complement c) (rotate_left w64 (complement d) 1) ≡ bit_xor c (rotate_left w64 d 1)
both c d low = rw (rotated d 63 1 refl refl refl low) (simp (xor_l, xor_r, twice))

pub theta_masked : (a : List ℕ) → ((k : ℕ) → slice_index a k < 2 ^ 64) → theta (masked a) ≡ masked_by_theta (theta a)
unfolding theta masked masked_by_theta
theta_masked a low =
    let below : (x : ℕ) → parity a x < 2 ^ 64 = λ x. xor_lt 64 _ _ (xor_lt 64 _ _ (xor_lt 64 _ _ (xor_lt 64 _ _ (low _) (low _)) (low _)) (low _)) (low _) in
    let p0 : parity (masked a) 0 ≡ complement (parity a 0) = simp xor_r in
    let p1 : parity (masked a) 1 ≡ complement (parity a 1) = simp xor_l in
    let p2 : parity (masked a) 2 ≡ complement (parity a 2) = simp (xor_l, xor_r, twice) in
    let p3 : parity (masked a) 3 ≡ complement (parity a 3) = simp (xor_l, xor_r) in
    rw (p0, p1, p2, p3, both (parity a 0) (parity a 2) (below 2), both (parity a 1) (parity a 3) (below 3), both (parity a 3) (parity a 0) (below 0), rotated (parity a 1) 63 1 refl refl refl (below 1))
    (simp (xor_l, xor_r, twice))

-- ρ and π of such a state
pub rho_pi_masked : (b : List ℕ) → ((k : ℕ) → slice_index b k < 2 ^ 64) → pi (rho (masked_by_theta b)) ≡ masked_by_pi (pi (rho b))
unfolding rho pi masked_by_theta masked_by_pi
rho_pi_masked b low =
    let at = λ (i j k : ℕ) (kj : k + j ≡ 64) (jk : j + k ≡ 64) (all : turned (2 ^ 64 - 1) j k ≡ 2 ^ 64 - 1). rotated (slice_index b i) j k kj jk all (low i) in
    rw (still (slice_index b 0) (low 0), still (complement (slice_index b 0)) (omega (arith, low 0, not_is (slice_index b 0) (low 0))), at 1 63 1 refl refl refl, at 2 2 62 refl refl refl, at 3 36 28 refl refl refl, at 5 28 36 refl refl refl, at 10 61 3 refl refl refl, at 12 21 43 refl refl refl, at 13 39 25 refl refl refl, at 15 23 41 refl refl refl, at 17 49 15 refl refl refl, at 18 43 21 refl refl refl, at 23 8 56 refl refl refl) refl
