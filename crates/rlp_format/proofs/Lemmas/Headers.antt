-- The first byte of a written header, and the bytes after it.
use Rattle.std.proofs.Common.{◌≡◌, ℕ, ◌+◌, ◌^◌, ◌<◌, ◌≤◌, ◌⊎◌, inl, inr, ⊎_elim, List, [], ◌∷◌, length, refl, arith, leb, le-leb}
use Rattle.std.proofs.lemmas.Bool.{cases_lt, lt-leb, cond-true, cond-false}
use Rattle.rlp_format.specs.Format.Encoding.{big_endian, written_header}
use Rattle.rlp_format.proofs.Lemmas.Digits.{big_endian_some, big_endian_length}

-- the header of at most 55 bytes
pub written_header_short : (base n : ℕ) → n ≤ 55 → written_header base n ≡ (base + n) ∷ []
unfolding written_header
written_header_short base n h = cond-true (leb n 55) _ _ (le-leb n 55 h)

-- the header of more bytes
pub written_header_long : (base n : ℕ) → 55 < n → written_header base n ≡ (base + 55 + length (big_endian n)) ∷ big_endian n
unfolding written_header
written_header_long base n h = cond-false (leb n 55) _ _ (lt-leb n 55 h)

-- a header's first byte, and the bytes of length after it
abbrev pub Parts : ℕ → ℕ → ℕ → List ℕ → Type 0
Parts base n first more =
    ((n ≤ 55) × (first ≡ base + n) × (more ≡ []))
    ⊎ ((55 < n) × (first ≡ base + 55 + length more) × (more ≡ big_endian n) × (0 < length more) × (length more ≤ 8))

-- a header by its first byte and the others
pub record Shape (base n : ℕ) : Type 0 where
  pub first : ℕ
  pub more : List ℕ
  pub is : written_header base n ≡ first ∷ more
  pub parts : Parts base n first more

-- each header has such parts
pub shape : (base n : ℕ) → n < 2 ^ 64 → Shape base n
shape base n small =
    ⊎_elim (λ long. record {
      first = base + 55 + length (big_endian n);
      more = big_endian n;
      is = written_header_long base n long;
      parts =
          inr (long, refl, refl, big_endian_some n (omega arith), big_endian_length n small);
    })
    (λ short. record { first = base + n; more = []; is = written_header_short base n short; parts = inl (short, refl, refl) })
    (cases_lt 55 n)
