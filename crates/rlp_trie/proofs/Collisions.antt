-- Two finite lists of strings tell hashes apart, or have a collision.
use Rattle.std.proofs.Common.{◌≡◌, ◌≢◌, ◌⊎◌, inl, inr, ⊎_elim, ap, ℕ, zero, suc, Bool, true, false, List, [], ◌∷◌, refl, sym, subst, arith}
use Rattle.std.proofs.lemmas.{List.Elements.{Contains-append_cases, Contains-append_right, Contains-append_left}, Slice.Eq.bytes_eq-Decides}
use Rattle.std.specs.{Prelude.Contains, Str.bytes_eq}
use Rattle.rlp.specs.Format.Encoding.{encoding, string}
use Rattle.rlp_records.specs.Keccak.{keccak256}
use Rattle.rlp_trie.specs.{Listed.{HasCollision, known_of}, ProofWalk.{IsKnown, TellApart}}

single : (c d : List ℕ) → Contains (c ∷ []) d → c ≡ d
single c d (zero, few, is) = is
single c d (suc k, few, is) = absurd (omega (arith, few))

head_held : (c : List ℕ) (m : List (List ℕ)) → Contains (c ∷ m) c
head_held c m = (0, omega arith, refl)

module _ (b c : List ℕ) where
  by_hashes : (t : Bool) → b ≢ c → bytes_eq (keccak256 b) (keccak256 c) ≡ t → (keccak256 b ≡ keccak256 c → b ≡ c) ⊎ ((b ≢ c) × (keccak256 b ≡ keccak256 c))
  by_hashes true differ is = inr (differ, (bytes_eq-Decides (keccak256 b) (keccak256 c)).0 is)
  by_hashes false differ is = inl (λ same. let equal : bytes_eq (keccak256 b) (keccak256 c) ≡ true = (bytes_eq-Decides (keccak256 b) (keccak256 c)).1 same in absurd (let no : ⊥ = cc in no))

  by_strings : (t : Bool) → bytes_eq b c ≡ t → (keccak256 b ≡ keccak256 c → b ≡ c) ⊎ ((b ≢ c) × (keccak256 b ≡ keccak256 c))
  by_strings true is = inl (λ same. (bytes_eq-Decides b c).0 is)
  by_strings false is =
      by_hashes (bytes_eq (keccak256 b) (keccak256 c))
      (λ same. let equal : bytes_eq b c ≡ true = (bytes_eq-Decides b c).1 same in let no : ⊥ = cc in no) refl

  pair_tells : (keccak256 b ≡ keccak256 c → b ≡ c) ⊎ ((b ≢ c) × (keccak256 b ≡ keccak256 c))
  pair_tells = by_strings (bytes_eq b c) refl

abbrev OneTells : List ℕ → List (List ℕ) → Type 0
OneTells b m = (c : List ℕ) → Contains m c → keccak256 b ≡ keccak256 c → b ≡ c

-- a string and a list
one_tells : (b : List ℕ) (m : List (List ℕ)) → OneTells b m ⊎ HasCollision (b ∷ []) m
one_tells b [] = inl (λ c (k, few, is) same. absurd (omega (arith, few)))
one_tells b (d ∷ m) =
    ⊎_elim
    (λ (first : keccak256 b ≡ keccak256 d → b ≡ d).
    ⊎_elim
    (λ (rest : OneTells b m). inl (λ c held same.
    ⊎_elim
    (λ (one : Contains (d ∷ []) c). let is = single d c one in let e : b ≡ c = (let h = first (let g : keccak256 b ≡ keccak256 d = cc (ap keccak256 is) in g) in cc) in e)
    (λ (more : Contains m c). rest c more same)
    (Contains-append_cases (d ∷ []) m c held)))
    (λ (found : HasCollision (b ∷ []) m). inr (record { first = found.first; second = found.second; in_one = found.in_one; in_other = Contains-append_right (d ∷ []) m found.second found.in_other; differ = found.differ; hash = found.hash }))
    (one_tells b m))
    (λ (found : (b ≢ d) × (keccak256 b ≡ keccak256 d)).
    inr (record { first = b; second = d; in_one = head_held b []; in_other = head_held d m; differ = found.0; hash = found.1 }))
    (pair_tells b d)

-- two lists
pub lists_tell : (l m : List (List ℕ)) → TellApart (Contains l) (Contains m) ⊎ HasCollision l m
lists_tell [] m = inl (λ b c (k, few, is) also same. absurd (omega (arith, few)))
lists_tell (d ∷ l) m =
    ⊎_elim
    (λ (first : OneTells d m).
    ⊎_elim
    (λ (rest : TellApart (Contains l) (Contains m)). inl (λ b c held also same.
    ⊎_elim
    (λ (one : Contains (d ∷ []) b). let is = single d b one in let e : b ≡ c = (let h = first c also (let g : keccak256 d ≡ keccak256 c = cc (ap keccak256 is) in g) in cc) in e)
    (λ (more : Contains l b). rest b c more also same)
    (Contains-append_cases (d ∷ []) l b held)))
    (λ (found : HasCollision l m). inr (record { first = found.first; second = found.second; in_one = Contains-append_right (d ∷ []) l found.first found.in_one; in_other = found.in_other; differ = found.differ; hash = found.hash }))
    (lists_tell l m))
    (λ (found : HasCollision (d ∷ []) m).
    inr (record { first = found.first; second = found.second; in_one = Contains-append_left (d ∷ []) l found.first found.in_one; in_other = found.in_other; differ = found.differ; hash = found.hash }))
    (one_tells d m)

known_held : (nodes : List (List ℕ)) (b : List ℕ) → IsKnown nodes b → Contains (known_of nodes) b
known_held nodes b (inl held) = Contains-append_right (encoding (string []) ∷ []) nodes b held
known_held nodes b (inr is) = subst (Contains (known_of nodes)) (sym is) (head_held (encoding (string [])) nodes)

-- what is known from two lists of nodes
pub known_tell : (nodes others : List (List ℕ)) → TellApart (IsKnown nodes) (IsKnown others) ⊎ HasCollision (known_of nodes) (known_of others)
known_tell nodes others =
    ⊎_elim
    (λ (apart : TellApart (Contains (known_of nodes)) (Contains (known_of others))).
    inl (λ b c known also same. apart b c (known_held nodes b known) (known_held others c also) same))
    (λ (found : HasCollision (known_of nodes) (known_of others)). inr found)
    (lists_tell (known_of nodes) (known_of others))
