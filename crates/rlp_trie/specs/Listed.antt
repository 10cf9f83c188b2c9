-- Lists of values whose tries the laws are about, and strings with one hash.
use Rattle.std.specs.Prelude.{ℕ, ◌≡◌, ◌≢◌, ◌≤◌, ◌<◌, ◌+◌, ◌^◌, All, Contains, List, [], ◌∷◌, length}
use Rattle.rlp.specs.Format.Encoding.{encoding, string}
use Rattle.rlp_records.specs.Keccak.{keccak256}

-- From place i on, the values are shorter than 2^63, and the places below 2^64. All slices of slices are listed, as the law `slices_are_listed` says.
pub record AreListed (i : ℕ) (vs : List (List ℕ)) : Type 0 where
  pub values : All (λ v. length v < 2 ^ 63) vs
  pub places : i + length vs ≤ 2 ^ 64

-- a string of the one list and a different string of the other have one hash
pub record HasCollision (one other : List (List ℕ)) : Type 0 where
  pub first : List ℕ
  pub second : List ℕ
  pub in_one : Contains one first
  pub in_other : Contains other second
  pub differ : first ≢ second
  pub hash : keccak256 first ≡ keccak256 second

-- the encodings that are known from nodes: those of the nodes, and that of the empty trie
abbrev pub known_of : List (List ℕ) → List (List ℕ)
known_of nodes = encoding (string []) ∷ nodes
