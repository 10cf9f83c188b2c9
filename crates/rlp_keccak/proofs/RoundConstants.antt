-- The table of round constants follows the standard's rule, and the table of offsets its walk.
use Rattle.std.{proofs.Common.{◌≡◌, ℕ, ◌+◌, ◌<◌, zero, suc, ◌*◌, ◌/◌, ◌%◌, List, [], ◌∷◌, map, slice_index, refl, ap, sym, ◌∙◌, arith, add-one}, specs.List.{range_with_len}}
use Rattle.std.proofs.lemmas.List.FromFn.{get_or-map-range_with_len}
use Rattle.rlp_keccak.specs.Keccak.{lane, offsets, register, round, round_constant, rounds}

abbrev pub table : List ℕ
table =
    0x1 ∷ 0x8082 ∷ 0x800000000000808A ∷ 0x8000000080008000 ∷ 0x808B ∷ 0x80000001 ∷ 0x8000000080008081 ∷ 0x8000000000008009 ∷
    0x8A ∷ 0x88 ∷ 0x80008009 ∷ 0x8000000A ∷ 0x8000808B ∷ 0x800000000000008B ∷ 0x8000000000008089 ∷ 0x8000000000008003 ∷
    0x8000000000008002 ∷ 0x8000000000000080 ∷ 0x800A ∷ 0x800000008000000A ∷ 0x8000000080008081 ∷ 0x8000000000008080 ∷ 0x80000001 ∷
    0x8000000080008008 ∷ []

table_by_rule : map round_constant (range_with_len 0 24) ≡ table
unfolding register round_constant
table_by_rule = refl

-- each constant of the table is the standard's
pub constant_at : (i : ℕ) → i < 24 → slice_index table i ≡ round_constant i
constant_at i low = ap (λ (t : List ℕ). slice_index t i) (sym table_by_rule) ∙ get_or-map-range_with_len round_constant 0 24 i i 0 low (omega arith)

-- two rounds more
pub rounds_next : (a : List ℕ) (n : ℕ) → rounds a (2 * (n + 1)) ≡ round (round (rounds a (2 * n)) (2 * n)) (2 * n + 1)
unfolding rounds
rounds_next a n =
    let more : 2 * (n + 1) ≡ suc (suc (2 * n)) = omega arith in
    rw (more, add-one) refl

-- the column and the row of the walk of ρ after t steps (3.2.2, steps 2 and 3)
walk : ℕ → ℕ × ℕ
walk zero = (1, 0)
walk (suc t) = ((walk t).1, (2 * (walk t).0 + 3 * (walk t).1) % 5)

-- the table of offsets has (t + 1) (t + 2) / 2 at step t of the walk (3.2.2, step 3)
offsets_by_walk : map (λ (t : ℕ). lane offsets (walk t).0 (walk t).1) (range_with_len 0 24) ≡ map (λ (t : ℕ). (t + 1) * (t + 2) / 2 % 64) (range_with_len 0 24)
unfolding walk
offsets_by_walk = refl
