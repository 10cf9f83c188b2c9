-- States of Keccak-f[1600] in which some lanes are kept as their complements, which saves most of the complements in χ.
use Rattle.std.specs.Prelude.{ℕ, zero, suc, ◌-◌, ◌^◌, List, [], ◌∷◌, bit_xor}
use Rattle.rlp_keccak.specs.Keccak.{lane, state_of}

-- the complement of a lane
unfoldable pub complement : ℕ → ℕ
complement n = bit_xor n (2 ^ 64 - 1)

-- the complement of a lane if the flag isn't 0
abbrev pub complement_if : ℕ → ℕ → ℕ
complement_if zero n = n
complement_if (suc _) n = complement n

-- the state a with a complement in the place of each lane for which m has a 1
abbrev pub complements : List ℕ → List ℕ → List ℕ
complements m a = state_of (λ (x y : ℕ). complement_if (lane m x y) (lane a x y))

-- the state with complements in the place of six lanes, as it is kept between rounds
unfoldable pub masked : List ℕ → List ℕ
masked a = complements (0 ∷ 1 ∷ 1 ∷ 0 ∷ 0 ∷ 0 ∷ 0 ∷ 0 ∷ 1 ∷ 0 ∷ 0 ∷ 0 ∷ 1 ∷ 0 ∷ 0 ∷ 0 ∷ 0 ∷ 1 ∷ 0 ∷ 0 ∷ 1 ∷ 0 ∷ 0 ∷ 0 ∷ 0 ∷ []) a

-- the state with complements where θ has them if it is given a `masked` state
unfoldable pub masked_by_theta : List ℕ → List ℕ
masked_by_theta a = complements (1 ∷ 1 ∷ 1 ∷ 1 ∷ 0 ∷ 1 ∷ 0 ∷ 0 ∷ 0 ∷ 0 ∷ 1 ∷ 0 ∷ 1 ∷ 1 ∷ 0 ∷ 1 ∷ 0 ∷ 1 ∷ 1 ∷ 0 ∷ 0 ∷ 0 ∷ 0 ∷ 1 ∷ 0 ∷ []) a

-- the state with complements where θ, ρ and π have them if θ is given a `masked` state
unfoldable pub masked_by_pi : List ℕ → List ℕ
masked_by_pi a = complements (1 ∷ 0 ∷ 1 ∷ 1 ∷ 0 ∷ 1 ∷ 0 ∷ 1 ∷ 0 ∷ 0 ∷ 1 ∷ 0 ∷ 1 ∷ 0 ∷ 0 ∷ 0 ∷ 1 ∷ 0 ∷ 1 ∷ 1 ∷ 1 ∷ 0 ∷ 0 ∷ 1 ∷ 0 ∷ []) a
