-- Blocks
use Rattle.std.proofs.Common.{◌≡◌, ℕ, zero, suc, ◌+◌, ◌-◌, ◌*◌, ◌/◌, ◌%◌, ◌<◌, ◌≤◌, List, [], ◌∷◌, ◌++◌, length, drop, take, replicate, set, slice_index, get_or, refl, ap, sym, ◌∙◌, arith, add-one, length-append, length-drop, bit_xor}
use Rattle.std.proofs.lemmas.List.{append_assoc, get_or_append_left, get_or-append_right, get_or-replicate, length-replicate, replicate_more, set_at, take_all, take-append-le, drop-append-le}
use Rattle.std.specs.Int.Bits.{xor_zero_r}
use Rattle.rlp_keccak.specs.{Complements.{complement, masked}, Keccak.{absorb, absorbed, bytes_of_lanes, keccak256, lane_of_bytes, padding, xor_bytes}}
use Rattle.rlp_keccak.proofs.Complements.{xor_l}

-- a lane of the block
pub lane_in_block : (b z : List ℕ) (i : ℕ) → 8 * i + 8 ≤ length b → lane_of_bytes (b ++ z) i ≡ lane_of_bytes b i
lane_in_block b z i fits =
    rw (
      get_or_append_left b z 0 (8 * i) (omega arith),
      get_or_append_left b z 0 (8 * i + 1) (omega arith),
      get_or_append_left b z 0 (8 * i + 2) (omega arith),
      get_or_append_left b z 0 (8 * i + 3) (omega arith),
      get_or_append_left b z 0 (8 * i + 4) (omega arith),
      get_or_append_left b z 0 (8 * i + 5) (omega arith),
      get_or_append_left b z 0 (8 * i + 6) (omega arith),
      get_or_append_left b z 0 (8 * i + 7) (omega arith),
    ) refl

zero_after : (b : List ℕ) (n k : ℕ) → length b ≤ k → k < length b + n → slice_index (b ++ replicate n 0) k ≡ 0
zero_after b n k over under = get_or-append_right b (replicate n 0) (length b) k 0 refl over ∙ get_or-replicate n (k - length b) 0 0 (omega arith)

-- a lane of the zeros after the block
pub lane_after_block : (b : List ℕ) (n i : ℕ) → length b ≤ 8 * i → 8 * i + 8 ≤ length b + n → lane_of_bytes (b ++ replicate n 0) i ≡ 0
lane_after_block b n i over under =
    rw (
      zero_after b n (8 * i) (omega arith) (omega arith),
      zero_after b n (8 * i + 1) (omega arith) (omega arith),
      zero_after b n (8 * i + 2) (omega arith) (omega arith),
      zero_after b n (8 * i + 3) (omega arith) (omega arith),
      zero_after b n (8 * i + 4) (omega arith) (omega arith),
      zero_after b n (8 * i + 5) (omega arith) (omega arith),
      zero_after b n (8 * i + 6) (omega arith) (omega arith),
      zero_after b n (8 * i + 7) (omega arith) (omega arith),
    ) refl

-- what is xored into a lane: that lane of the block, or nothing
held : (b : List ℕ) (x i : ℕ) → length b ≡ 136 → i < 17 → bit_xor x (lane_of_bytes (b ++ replicate 64 0) i) ≡ bit_xor x (lane_of_bytes b i)
held b x i len low = ap (bit_xor x) (lane_in_block b (replicate 64 0) i (omega arith))

kept : (b : List ℕ) (x i : ℕ) → length b ≡ 136 → 17 ≤ i → i < 25 → bit_xor x (lane_of_bytes (b ++ replicate 64 0) i) ≡ x
kept b x i len over low = ap (bit_xor x) (lane_after_block b 64 i (omega arith) (omega arith)) ∙ xor_zero_r x

-- the state with a block xored into it, where some lanes are complements: the last eight lanes stay
pub block_xored : (a b : List ℕ) → length b ≡ 136 → xor_bytes (masked a) (b ++ replicate 64 0) ≡ masked (
    bit_xor (slice_index a 0) (lane_of_bytes b 0) ∷ bit_xor (slice_index a 1) (lane_of_bytes b 1) ∷ bit_xor (slice_index a 2) (lane_of_bytes b 2) ∷ bit_xor (slice_index a 3) (lane_of_bytes b 3) ∷ bit_xor (slice_index a 4) (lane_of_bytes b 4) ∷ bit_xor (slice_index a 5) (lane_of_bytes b 5) ∷ bit_xor (slice_index a 6) (lane_of_bytes b 6) ∷ bit_xor (slice_index a 7) (lane_of_bytes b 7) ∷ bit_xor (slice_index a 8) (lane_of_bytes b 8) ∷ bit_xor (slice_index a 9) (lane_of_bytes b 9) ∷ bit_xor (slice_index a 10) (lane_of_bytes b 10) ∷ bit_xor (slice_index a 11) (lane_of_bytes b 11) ∷ bit_xor (slice_index a 12) (lane_of_bytes b 12) ∷ bit_xor (slice_index a 13) (lane_of_bytes b 13) ∷ bit_xor (slice_index a 14) (lane_of_bytes b 14) ∷ bit_xor (slice_index a 15) (lane_of_bytes b 15) ∷ bit_xor (slice_index a 16) (lane_of_bytes b 16) ∷ slice_index a 17 ∷ slice_index a 18 ∷ slice_index a 19 ∷ slice_index a 20 ∷ slice_index a 21 ∷ slice_index a 22 ∷ slice_index a 23 ∷ slice_index a 24 ∷ [])
unfolding masked
block_xored a b len =
    λ t. held b (slice_index a 0) 0 len (omega arith) t ∷ (held b (complement (slice_index a 1)) 1 len (omega arith) ∙ xor_l (slice_index a 1) (lane_of_bytes b 1)) t ∷ (held b (complement (slice_index a 2)) 2 len (omega arith) ∙ xor_l (slice_index a 2) (lane_of_bytes b 2)) t ∷ held b (slice_index a 3) 3 len (omega arith) t ∷ held b (slice_index a 4) 4 len (omega arith) t ∷ held b (slice_index a 5) 5 len (omega arith) t ∷ held b (slice_index a 6) 6 len (omega arith) t ∷ held b (slice_index a 7) 7 len (omega arith) t ∷ (held b (complement (slice_index a 8)) 8 len (omega arith) ∙ xor_l (slice_index a 8) (lane_of_bytes b 8)) t ∷ held b (slice_index a 9) 9 len (omega arith) t ∷ held b (slice_index a 10) 10 len (omega arith) t ∷ held b (slice_index a 11) 11 len (omega arith) t ∷ (held b (complement (slice_index a 12)) 12 len (omega arith) ∙ xor_l (slice_index a 12) (lane_of_bytes b 12)) t ∷ held b (slice_index a 13) 13 len (omega arith) t ∷ held b (slice_index a 14) 14 len (omega arith) t ∷ held b (slice_index a 15) 15 len (omega arith) t ∷ held b (slice_index a 16) 16 len (omega arith) t ∷ kept b (complement (slice_index a 17)) 17 len (omega arith) (omega arith) t ∷ kept b (slice_index a 18) 18 len (omega arith) (omega arith) t ∷ kept b (slice_index a 19) 19 len (omega arith) (omega arith) t ∷ kept b (complement (slice_index a 20)) 20 len (omega arith) (omega arith) t ∷ kept b (slice_index a 21) 21 len (omega arith) (omega arith) t ∷ kept b (slice_index a 22) 22 len (omega arith) (omega arith) t ∷ kept b (slice_index a 23) 23 len (omega arith) (omega arith) t ∷ kept b (slice_index a 24) 24 len (omega arith) (omega arith) t ∷ []

zeros_more : (k : ℕ) → replicate {A = ℕ} (suc k) 0 ≡ replicate k 0 ++ 0 ∷ []
zeros_more k = sym (replicate_more {X = ℕ} k 0 ∙ rw add-one refl)

-- a last block with the two bits of its padding set
abbrev pub marked : List ℕ → ℕ → List ℕ
marked b n = set (set b n 1) 135 (bit_xor (get_or (set b n 1) 135 0) 0x80)

-- bytes that the padding follows
pub padded : (r : List ℕ) (n : ℕ) → length r + n ≡ 136 → 0 < n → marked (r ++ replicate n 0) (length r) ≡ r ++ padding n
unfolding padding
padded r zero whole some = absurd (omega arith)
padded r (suc zero) whole some =
    let last : length r ≡ 135 = omega arith in
    let first : set (r ++ 0 ∷ []) (length r) 1 ≡ r ++ 1 ∷ [] = set_at r 0 [] 1 (length r) refl in
    let now : get_or (r ++ 1 ∷ []) 135 0 ≡ 1 = get_or-append_right r (1 ∷ []) 135 135 0 last (omega arith) in
    rw (first, now) (set_at r 1 [] 0x81 135 last)
padded r (suc (suc k)) whole some =
    let front : List ℕ = r ++ 1 ∷ replicate k 0 in
    let last : length front ≡ 135 = omega (arith, length-append r (1 ∷ replicate k 0), length-replicate {A = ℕ} k 0) in
    let first : set (r ++ replicate (suc (suc k)) 0) (length r) 1 ≡ front ++ 0 ∷ [] =
    set_at r 0 (replicate (suc k) 0) 1 (length r) refl ∙ ap (λ (x : List ℕ). r ++ 1 ∷ x) (zeros_more k) ∙ sym (append_assoc r (1 ∷ replicate k 0) (0 ∷ [])) in
    let now : get_or (front ++ 0 ∷ []) 135 0 ≡ 0 = get_or-append_right front (0 ∷ []) 135 135 0 last (omega arith) in
    rw (first, now) (set_at front 0 [] 0x80 135 last ∙ append_assoc r (1 ∷ replicate k 0) (0x80 ∷ []))

pub length-padding : (n : ℕ) → length (padding n) ≡ n
unfolding padding
length-padding zero = refl
length-padding (suc zero) = refl
length-padding (suc (suc k)) = omega (arith, length-append {A = ℕ} (replicate k 0) (0x80 ∷ []), length-replicate {A = ℕ} k 0)

-- `absorbed` reads only the blocks that it counts
pub absorbed-append : (p x : List ℕ) (n : ℕ) → n * 136 ≤ length p → absorbed (p ++ x) n ≡ absorbed p n
unfolding absorbed
absorbed-append p x zero h = refl
absorbed-append p x (suc n) h =
    let fits : 136 ≤ length (drop (n * 136) p) = omega (arith, length-drop (n * 136) p) in
    let block : take 136 (drop (n * 136) (p ++ x)) ≡ take 136 (drop (n * 136) p) =
    rw (drop-append-le (n * 136) p x (omega arith)) (take-append-le 136 (drop (n * 136) p) x fits) in
    rw (block, absorbed-append p x n (omega arith)) refl

-- one block more
pub absorbed_next : (p : List ℕ) (n : ℕ) → absorbed p (n + 1) ≡ absorb (absorbed p n) (take 136 (drop (n * 136) p))
unfolding absorbed
absorbed_next p n = rw add-one refl

-- the first four lanes of the last state are the hash
pub hash_of : (m rest last s : List ℕ) → rest ≡ drop (136 * (length m / 136)) m → last ≡ rest ++ padding (136 - length rest)
    → s ≡ absorb (absorbed m (length m / 136)) last → bytes_of_lanes s 4 ≡ keccak256 m
unfolding keccak256 bytes_of_lanes
hash_of m rest last s er el es =
    let q : ℕ = length m / 136 in
    let pad : List ℕ = padding (136 - length m % 136) in
    let p : List ℕ = m ++ pad in
    let left : length (drop (136 * q) m) ≡ length m % 136 = omega (arith, length-drop (136 * q) m) in
    let size : length p ≡ length m + (136 - length m % 136) = length-append m pad ∙ ap (λ (k : ℕ). length m + k) (length-padding _) in
    let count : length p / 136 ≡ q + 1 = omega arith in
    let turned : q * 136 ≡ 136 * q = omega arith in
    let tail : drop (q * 136) p ≡ last = drop-append-le (q * 136) m pad (omega arith) ∙ rw (turned, el, er, left) refl in
    let whole : length last ≡ 136 = ap length (sym tail) ∙ length-drop (q * 136) p ∙ omega arith in
    let next : absorbed p (q + 1) ≡ s =
    absorbed_next p q ∙ (λ t. absorb (absorbed-append m pad q (omega arith) t) (take 136 (tail t)))
    ∙ ap (absorb (absorbed m q)) (take_all 136 last (omega arith)) ∙ sym es in
    rw (count, next) refl
