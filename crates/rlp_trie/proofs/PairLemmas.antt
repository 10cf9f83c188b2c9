-- Pairs of paths and values: what is below their first nibbles.
use Rattle.std.proofs.Common.{◌≡◌, ◌^◌, ◌<◌, ◌≤◌, ◌∙◌, ap, ℕ, suc, Bool, true, false, if◌then◌else◌, List, [], ◌∷◌, ◌++◌, drop, length, refl, sym, arith, append_assoc, append-nil, None}
use Rattle.std.proofs.lemmas.{Bool.Decides.nat_tests, List.Elements.{All-cons, All-head, All-nil, All-tail}}
use Rattle.std.specs.{List.{AllByRecursion, starts_with}, Prelude.{⊤, ◌==◌, ◌&&◌, nat_eq}}
use Rattle.rlp_trie.specs.{HexPrefix.AreNibbles, Ordered.{Pair, below, below_all, common, shared, value_at}}

-- whether all paths begin with this nibble
abbrev pub all_begin : ℕ → List Pair → Bool
all_begin k [] = true
all_begin k (([], v) ∷ ps) = false
all_begin k ((n ∷ x, v) ∷ ps) = (n == k) && all_begin k ps

-- ---- values

-- the value of a path is that of its rest below its first nibble
pub value_below : (k : ℕ) (x : List ℕ) (ps : List Pair) → value_at (k ∷ x) ps ≡ value_at x (below k ps)
value_below k x [] = refl
value_below k x (([], v) ∷ ps) = grind (arith, value_below k x ps)
value_below k x ((n ∷ y, v) ∷ ps) = grind (arith, nat_tests, value_below k x ps)

-- if all paths begin with one nibble, a path that doesn't has no value
value_other : (k n : ℕ) (x : List ℕ) (ps : List Pair) → all_begin k ps ≡ true → (n == k) ≡ false → value_at (n ∷ x) ps ≡ None
value_other k n x [] all other = refl
value_other k n x (([], v) ∷ ps) all other = absurd (let no : ⊥ = cc in no)
value_other k n x ((m ∷ y, v) ∷ ps) all other = grind (arith, nat_tests, value_other k n x ps)

value_empty : (k : ℕ) (ps : List Pair) → all_begin k ps ≡ true → value_at [] ps ≡ None
value_empty k [] all = refl
value_empty k (([], v) ∷ ps) all = absurd (let no : ⊥ = cc in no)
value_empty k ((m ∷ y, v) ∷ ps) all = grind (arith, nat_tests, value_empty k ps)

-- all paths begin with these nibbles
abbrev pub AllBegin : List ℕ → List Pair → Type 0
AllBegin [] ps = ⊤
AllBegin (k ∷ x) ps = (all_begin k ps ≡ true) × AllBegin x (below k ps)

-- all paths begin with these nibbles, each by itself
abbrev pub IsAfter : List ℕ → List ℕ → Type 0
IsAfter own x = (rest : List ℕ) × (x ≡ own ++ rest)

abbrev pub AllAfter : List ℕ → List Pair → Type 0
AllAfter own ps = AllByRecursion (λ p. IsAfter own p.0) ps

after_first : (k : ℕ) (own : List ℕ) (ps : List Pair) → AllAfter (k ∷ own) ps → all_begin k ps ≡ true
after_first k own [] all = refl
after_first k own (([], v) ∷ ps) ((rest, is), all) = absurd (let no : ⊥ = cc in no)
after_first k own ((n ∷ x, v) ∷ ps) ((rest, is), all) =
    let more = after_first k own ps all in
    let same : n ≡ k = cc in
    grind (arith, nat_tests)

after_rest : (k n : ℕ) (own x : List ℕ) → IsAfter (k ∷ own) (n ∷ x) → IsAfter own x
after_rest k n own x (rest, is) = (rest, let e : x ≡ own ++ rest = cc in e)

after_if : (own x v : List ℕ) (ps : List Pair) (t : Bool) → IsAfter own x → AllAfter own ps → AllAfter own (if t then (x, v) ∷ ps else ps)
after_if own x v ps true is all = (is, all)
after_if own x v ps false is all = all

pub after_below : (k : ℕ) (own : List ℕ) (ps : List Pair) → AllAfter (k ∷ own) ps → AllAfter own (below k ps)
after_below k own [] all = tt
after_below k own (([], v) ∷ ps) ((rest, is), all) = absurd (let no : ⊥ = cc in no)
after_below k own ((n ∷ x, v) ∷ ps) (is, all) = after_if own x v (below k ps) (n == k) (after_rest k n own x is) (after_below k own ps all)

pub all_begin_if : (own : List ℕ) (ps : List Pair) → AllAfter own ps → AllBegin own ps
all_begin_if [] ps all = tt
all_begin_if (k ∷ own) ps all = (after_first k own ps all, all_begin_if own (below k ps) (after_below k own ps all))

common_left : (x y : List ℕ) → IsAfter (common x y) x
common_left [] y = ([], refl)
common_left (a ∷ x) [] = (a ∷ x, refl)
common_left (a ∷ x) (b ∷ y) = by (a == b) (common_left x y)
  where
    by : (t : Bool) → IsAfter (common x y) x → IsAfter (if t then a ∷ common x y else []) (a ∷ x)
    by true (rest, is) = (rest, ap (λ z. a ∷ z) is)
    by false more = (a ∷ x, refl)

common_right : (x y : List ℕ) → IsAfter (common x y) y
common_right [] y = (y, refl)
common_right (a ∷ x) [] = ([], refl)
common_right (a ∷ x) (b ∷ y) = by (a == b) refl (common_right x y)
  where
    by : (t : Bool) → (a == b) ≡ t → IsAfter (common x y) y → IsAfter (if t then a ∷ common x y else []) (b ∷ y)
    by true same (rest, is) = (rest, let e : a ≡ b = grind (arith, nat_tests) in let whole : b ∷ y ≡ a ∷ (common x y ++ rest) = cc in whole)
    by false same more = (b ∷ y, refl)

after_trans : (s c x : List ℕ) → IsAfter s c → IsAfter c x → IsAfter s x
after_trans s c x (r, is) (q, also) = (r ++ q, also ∙ ap (λ z. z ++ q) is ∙ append_assoc s r q)

shared_first : (x : List ℕ) (ps : List Pair) → IsAfter (shared x ps) x
shared_first x [] = ([], sym (append-nil x))
shared_first x (p ∷ ps) = after_trans (shared (common x p.0) ps) (common x p.0) x (shared_first (common x p.0) ps) (common_left x p.0)

shared_all : (x : List ℕ) (ps : List Pair) → AllAfter (shared x ps) ps
shared_all x [] = tt
shared_all x (p ∷ ps) =
    (after_trans (shared (common x p.0) ps) (common x p.0) p.0 (shared_first (common x p.0) ps) (common_right x p.0), shared_all (common x p.0) ps)

pub shared_after : (p : Pair) (ps : List Pair) → AllAfter (shared p.0 ps) (p ∷ ps)
shared_after p ps = (shared_first p.0 ps, shared_all p.0 ps)

-- all paths begin with the nibbles that they share
pub shared_is : (p : Pair) (ps : List Pair) → AllBegin (shared p.0 ps) (p ∷ ps)
shared_is p ps = all_begin_if (shared p.0 ps) (p ∷ ps) (shared_after p ps)

common_length : (x y : List ℕ) → length (common x y) ≤ length x
common_length [] y = omega arith
common_length (a ∷ x) [] = omega arith
common_length (a ∷ x) (b ∷ y) = grind (arith, nat_tests, common_length x y)

pub shared_length : (x : List ℕ) (ps : List Pair) → length (shared x ps) ≤ length x
shared_length x [] = omega arith
shared_length x (p ∷ ps) = omega (arith, shared_length (common x p.0) ps, common_length x p.0)

first_nibbles : (t : Bool) (k : ℕ) (s : List ℕ) → k < 16 → AreNibbles s → AreNibbles (if t then k ∷ s else [])
first_nibbles true k s small are = All-cons (λ n. n < 16) k s small are
first_nibbles false k s small are = All-nil (λ n. n < 16)

common_nibbles : (x y : List ℕ) → AreNibbles x → AreNibbles (common x y)
common_nibbles [] y are = are
common_nibbles (a ∷ x) [] are = All-nil (λ n. n < 16)
common_nibbles (a ∷ x) (b ∷ y) are =
    first_nibbles (a == b) a (common x y) (All-head (λ n. n < 16) a x are) (common_nibbles x y (All-tail (λ n. n < 16) a x are))

pub shared_nibbles : (x : List ℕ) (ps : List Pair) → AreNibbles x → AreNibbles (shared x ps)
shared_nibbles x [] are = are
shared_nibbles x (p ∷ ps) are = shared_nibbles (common x p.0) ps (common_nibbles x p.0 are)

-- what is below the nibbles with which all paths begin has all the values
pub value_below_all : (own path : List ℕ) (ps : List Pair) → AllBegin own ps
    → value_at path ps ≡ (if starts_with nat_eq path own then value_at (drop (length own) path) (below_all own ps) else None)
value_below_all [] path ps all = refl
value_below_all (k ∷ own) [] ps (first, more) = value_empty k ps first
value_below_all (k ∷ own) (n ∷ path) ps (first, more) =
    grind (arith, nat_tests, value_below n path ps, value_other k n path ps first, value_below_all own path (below k ps) more)

-- ---- what is below has shorter paths

-- the path has fewer nibbles than this number, and the value is shorter than 2^63
pub record IsShort (turns : ℕ) (p : Pair) : Type 0 where
  pub are : AreNibbles p.0
  pub path : length p.0 < turns
  pub value : length p.1 < 2 ^ 63

abbrev pub AreShort : ℕ → List Pair → Type 0
AreShort turns ps = AllByRecursion (IsShort turns) ps

short_rest : (n m k : ℕ) (x v : List ℕ) → n ≤ suc m → IsShort n (k ∷ x, v) → IsShort m (x, v)
short_rest n m k x v most s = record { are = All-tail (λ n. n < 16) k x s.are; path = omega (arith, s.path); value = s.value }

short_if : (n m k j : ℕ) (x v : List ℕ) (ps : List Pair) (t : Bool) → n ≤ suc m → IsShort n (k ∷ x, v) → AreShort m ps
    → AreShort m (if t then (x, v) ∷ ps else ps)
short_if n m k j x v ps true most s rest = (short_rest n m k x v most s, rest)
short_if n m k j x v ps false most s rest = rest

pub short_below : (n m k : ℕ) (ps : List Pair) → n ≤ suc m → AreShort n ps → AreShort m (below k ps)
short_below n m k [] most all = tt
short_below n m k (([], v) ∷ ps) most (s, all) = short_below n m k ps most all
short_below n m k ((j ∷ x, v) ∷ ps) most (s, all) = short_if n m j j x v (below k ps) (j == k) most s (short_below n m k ps most all)

pub short_below_all : (m : ℕ) (x : List ℕ) (ps : List Pair) → AreShort m ps → AreShort m (below_all x ps)
short_below_all m [] ps all = all
short_below_all m (k ∷ x) ps all = short_below_all m x (below k ps) (short_below m m k ps (omega arith) all)

-- ---- no path begins another

-- whether neither path begins the other
abbrev pub are_apart : List ℕ → List ℕ → Bool
are_apart [] y = false
are_apart (a ∷ x) [] = false
are_apart (a ∷ x) (b ∷ y) = if a == b then are_apart x y else true

abbrev pub is_apart_from : List ℕ → List Pair → Bool
is_apart_from x [] = true
is_apart_from x (p ∷ ps) = are_apart x p.0 && is_apart_from x ps

abbrev pub are_prefix_free : List Pair → Bool
are_prefix_free [] = true
are_prefix_free (p ∷ ps) = is_apart_from p.0 ps && are_prefix_free ps

apart_below : (k : ℕ) (x : List ℕ) (ps : List Pair) → is_apart_from (k ∷ x) ps ≡ true → is_apart_from x (below k ps) ≡ true
apart_below k x [] apart = refl
apart_below k x (([], v) ∷ ps) apart = absurd (let no : ⊥ = cc in no)
apart_below k x ((n ∷ y, v) ∷ ps) apart = grind (arith, nat_tests, apart_below k x ps)

pub free_below : (k : ℕ) (ps : List Pair) → are_prefix_free ps ≡ true → are_prefix_free (below k ps) ≡ true
free_below k [] free = refl
free_below k (([], v) ∷ ps) free = grind (arith, nat_tests, free_below k ps)
free_below k ((n ∷ y, v) ∷ ps) free = grind (arith, nat_tests, free_below k ps, apart_below k y ps)

pub free_below_all : (x : List ℕ) (ps : List Pair) → are_prefix_free ps ≡ true → are_prefix_free (below_all x ps) ≡ true
free_below_all [] ps free = free
free_below_all (k ∷ x) ps free = free_below_all x (below k ps) (free_below k ps free)

apart_some : (x : List ℕ) (ps : List Pair) → is_apart_from x ps ≡ true → value_at [] ps ≡ None
apart_some x [] apart = refl
apart_some [] (p ∷ ps) apart = absurd (let no : ⊥ = cc in no)
apart_some (k ∷ x) (([], v) ∷ ps) apart = absurd (let no : ⊥ = cc in no)
apart_some (k ∷ x) ((n ∷ y, v) ∷ ps) apart = grind (arith, nat_tests, apart_some (k ∷ x) ps)

-- of several pairs none has the empty path
pub none_empty : (p q : Pair) (ps : List Pair) → are_prefix_free (p ∷ q ∷ ps) ≡ true → value_at [] (p ∷ q ∷ ps) ≡ None
none_empty ([], v) q ps free = absurd (let no : ⊥ = cc in no)
none_empty (k ∷ x, v) q ps free = grind (arith, nat_tests, apart_some (k ∷ x) (q ∷ ps))
