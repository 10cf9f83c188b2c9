-- What the pairs of paths and values of a body are.
use Rattle.std.specs.Prelude.{ℕ, ◌==◌, ◌∷◌, Bool, List, [], drop, false, map}
use Rattle.std.specs.Borrow.{Bor}
use Rattle.std.specs.List.{AllByRecursion}
use Rattle.rlp_trie.specs.{HexPrefix.AreNibbles, Ordered.Pair, declared.ordered.PathValue.PathValue}

-- the pair
abbrev pub seen_pair : PathValue → Pair
seen_pair p = (p.path.now, p.value.now)

-- the pairs, each with the rest of its path after this number of nibbles
abbrev pub without : ℕ → List Pair → List Pair
without n ps = map (λ (p : Pair). let rest : Pair = (drop n p.0, p.1) in rest) ps

-- whether the path begins with this nibble
abbrev pub begins_with : ℕ → List ℕ → Bool
begins_with k [] = false
begins_with k (n ∷ x) = n == k

-- the paths are nibbles
abbrev pub HaveNibbles : List Pair → Type 0
HaveNibbles ps = AllByRecursion (λ p. AreNibbles p.0) ps

-- the bytes of a slice
abbrev pub slice_bytes : Bor (List ℕ) → List ℕ
slice_bytes s = s.now
