-- Tests of all capabilities, one by one, and that both ends of a connection find the same offsets.
use Rattle.std.proofs.Common.{ℕ, ◌&&◌, ◌+◌, ◌<◌, ◌||◌, ◌∙◌, ◌∷◌, ◌≡◌, ◌≤◌, Bool, List, [], ap, arith, eq-eqb, eqb-true, false, get_or, length, lt-ltb, map, refl, sym, take, true}
use Rattle.std.proofs.{Math.Bool.{and-false, and_assoc, or-true}, lemmas.Bool.{and_from, and_parts}, lemmas.Bool.Decides.nat_tests, lemmas.Grind.common_steps}
use Rattle.std.proofs.{lemmas.List.Folds.{fold-map, list_any_at}, lemmas.List.Sums.sum_by-cons, lemmas.Slice.Eq.bytes_eq-Decides}
use Rattle.std.specs.{List.{list_all, list_any}, Prelude.{◌==◌, if◌then◌else◌, nat_lt, not, sum_by}, Str.bytes_eq}
use Rattle.rlp_p2p.specs.Offsets.{Known, Named, announced, byte_if, comes_before, ids_before, is_named, is_same, is_shared, is_superseded, know_same_ids, lists_each_once, offset_of, shared_offset, speaks, supersedes}

pub any_map : {X Y : Type 0} (test : Y → Bool) (seen : X → Y) (xs : List X) → list_any test (map seen xs) ≡ list_any (λ x. test (seen x)) xs
any_map test seen [] = refl
any_map test seen (x ∷ xs) = ap (λ r. test (seen x) || r) (any_map test seen xs)

-- none of them has it
pub none_has : {X Y : Type 0} (test : Y → Bool) (seen : X → Y) (xs ys : List X) (i : ℕ) → ys ≡ xs → length ys ≤ i
    → list_any (λ x. test (seen x)) (take i ys) ≡ false → false ≡ list_any test (map seen xs)
none_has test seen xs ys i same all none = grind (arith, common_steps, any_map test seen ys)

pub twice_map : {X : Type 0} (seen : X → Known) (xs : List X) → announced (map seen xs) ≡ map (λ x. record { name = (seen x).name; version = (seen x).version }) xs
twice_map seen [] = refl
twice_map seen (x ∷ xs) = ap (λ more. record { name = (seen x).name; version = (seen x).version } ∷ more) (twice_map seen xs)

-- none of ours has it
pub none_of_ours : {X : Type 0} (test : Named → Bool) (seen : X → Known) (xs : List X) (i : ℕ) → length xs ≤ i
    → list_any (λ x. test (record { name = (seen x).name; version = (seen x).version })) (take i xs) ≡ false → false ≡ list_any test (announced (map seen xs))
none_of_ours test seen xs i all none =
    none_has test (λ x. record { name = (seen x).name; version = (seen x).version }) xs xs i refl all none ∙ ap (list_any test) (sym (twice_map seen xs))

-- the ids of all
pub all_ids : {X Y : Type 0} (f : Y → ℕ) (seen : X → Y) (xs : List X) (i n : ℕ) → length xs ≤ i → n ≡ 0x10 + sum_by (λ x. f (seen x)) (take i xs)
    → n ≡ 0x10 + sum_by f (map seen xs)
all_ids f seen xs i n all is = grind (arith, common_steps, fold-map (λ a x. a + f x) seen 0 xs)

-- for the functions that ask each capability
pub ruleset asking = (nat_tests, any_map, twice_map, list_any_at, all_ids)

-- ---- sums and tests over two lists

sum_plus : {X : Type 0} (f g : X → ℕ) (xs : List X) → sum_by (λ x. f x + g x) xs ≡ sum_by f xs + sum_by g xs
sum_plus f g [] = refl
sum_plus f g (x ∷ xs) = omega (arith, sum_plus f g xs, sum_by-cons (λ x. f x + g x) x xs, sum_by-cons f x xs, sum_by-cons g x xs)

-- sums of terms that are the same where the test passes
sum_where : {X : Type 0} (test : X → Bool) (f g : X → ℕ) → ((x : X) → test x ≡ true → f x ≡ g x) → (xs : List X) → list_all test xs ≡ true
    → sum_by f xs ≡ sum_by g xs
sum_where test f g same [] all = refl
sum_where test f g same (x ∷ xs) all = grind (arith, sum_by-cons, sum_where test f g same xs, same x)

sum_swap : {X Y : Type 0} (f : X → Y → ℕ) (xs : List X) (ys : List Y) → sum_by (λ x. sum_by (f x) ys) xs ≡ sum_by (λ y. sum_by (λ x. f x y) xs) ys
sum_swap f [] [] = refl
sum_swap f [] (y ∷ ys) = sum_swap f [] ys
sum_swap f (x ∷ xs) ys =
    sum_by-cons (λ x. sum_by (f x) ys) x xs ∙ ap (λ r. sum_by (f x) ys + r) (sum_swap f xs ys)
    ∙ sym (sum_plus (f x) (λ y. sum_by (λ x. f x y) xs) ys) ∙ sym (λ t. sum_by (λ y. sum_by-cons (λ x. f x y) x xs t) ys)

any_or : {X : Type 0} (f g : X → Bool) (xs : List X) → list_any (λ x. f x || g x) xs ≡ (list_any f xs || list_any g xs)
any_or f g [] = refl
any_or f g (x ∷ xs) = let rest = any_or f g xs in grind arith

any_swap : {X Y : Type 0} (f : X → Y → Bool) (xs : List X) (ys : List Y) → list_any (λ x. list_any (f x) ys) xs ≡ list_any (λ y. list_any (λ x. f x y) xs) ys
any_swap f [] [] = refl
any_swap f [] (y ∷ ys) = any_swap f [] ys
any_swap f (x ∷ xs) ys = ap (λ r. list_any (f x) ys || r) (any_swap f xs ys) ∙ sym (any_or (f x) (λ y. list_any (λ x. f x y) xs) ys)

any_and : {X : Type 0} (a : Bool) (f : X → Bool) (xs : List X) → (a && list_any f xs) ≡ list_any (λ x. a && f x) xs
any_and a f [] = grind arith
any_and a f (x ∷ xs) = let rest = any_and a f xs in grind arith

-- ---- higher versions

-- what peers announce
spoken : (ys : List Known) (p : Known) → speaks (announced ys) p.name p.version ≡ list_any (is_same p) ys
spoken ys p = any_map (is_named p.name p.version) (λ q. record { name = q.name; version = q.version }) ys

superseded_pairs : (xs ys : List Known) (name : List ℕ) (version : ℕ)
    → is_superseded xs (announced ys) name version ≡ list_any (λ p. list_any (λ q. (nat_lt version p.version && bytes_eq p.name name) && is_same p q) ys) xs
superseded_pairs xs ys name version = λ t. list_any (λ p. each p t) xs
  where
    each : (p : Known) → (nat_lt version p.version && (bytes_eq p.name name && speaks (announced ys) p.name p.version))
        ≡ list_any (λ q. (nat_lt version p.version && bytes_eq p.name name) && is_same p q) ys
    each p = let told = spoken ys p in let all = any_and (nat_lt version p.version && bytes_eq p.name name) (is_same p) ys in grind arith

-- a pair counts at both ends
pair_both : (name : List ℕ) (version : ℕ) (p q : Known) → ((nat_lt version p.version && bytes_eq p.name name) && is_same p q)
    ≡ ((nat_lt version q.version && bytes_eq q.name name) && is_same q p)
pair_both name version p q = grind (arith, bytes_eq-Decides, nat_tests)

superseded_sym : (xs ys : List Known) (name : List ℕ) (version : ℕ) → is_superseded xs (announced ys) name version ≡ is_superseded ys (announced xs) name version
superseded_sym xs ys name version =
    superseded_pairs xs ys name version
    ∙ any_swap (λ p q. (nat_lt version p.version && bytes_eq p.name name) && is_same p q) xs ys
    ∙ (λ t. list_any (λ q. list_any (λ p. pair_both name version p q t) xs) ys) ∙ sym (superseded_pairs ys xs name version)

-- ---- the ids

same_as : (p y : Known) → is_same p y ≡ true → (q : Known) → is_same p q ≡ is_same y q
same_as p y is q = grind (arith, bytes_eq-Decides)

once_by : (p : Known) (w : ℕ) (y : Known) (ys : List Known) (t : Bool) → is_same p y ≡ t → list_any (is_same y) ys ≡ false
    → sum_by (λ q. if is_same p q then w else 0) ys ≡ (if list_any (is_same p) ys then w else 0)
    → sum_by (λ q. if is_same p q then w else 0) (y ∷ ys) ≡ (if t || list_any (is_same p) ys then w else 0)
once_by p w y ys true is none_more rest =
    let none : list_any (is_same p) ys ≡ false = (λ t. list_any (λ q. same_as p y is q t) ys) ∙ none_more in
    let sum = sum_by-cons (λ q. if is_same p q then w else 0) y ys in grind arith
once_by p w y ys false is none_more rest = let sum = sum_by-cons (λ q. if is_same p q then w else 0) y ys in grind arith

-- of capabilities that are listed once, one at most is the same
once : (p : Known) (w : ℕ) (ys : List Known) → lists_each_once ys ≡ true
    → sum_by (λ q. if is_same p q then w else 0) ys ≡ (if list_any (is_same p) ys then w else 0)
once p w [] each = refl
once p w (y ∷ ys) each = once_by p w y ys (is_same p y) refl (let first : list_any (is_same y) ys ≡ false = grind arith in first) (once p w ys (let rest : lists_each_once ys ≡ true = grind arith in rest))

-- what a pair of capabilities takes before the name
abbrev share : List Known → List Known → List ℕ → Known → ℕ
share xs ys name p = if comes_before p.name name && not (is_superseded xs (announced ys) p.name p.version) then p.ids else 0

module _ (xs ys : List Known) (name : List ℕ) where
  ids_pairs : lists_each_once ys ≡ true → (p : Known) → ids_before xs (announced ys) name p ≡ sum_by (λ q. if is_same p q then share xs ys name p else 0) ys
  ids_pairs each p = let told = spoken ys p in let all = once p (share xs ys name p) ys each in grind arith

  -- a shared capability takes the same at both ends
  pair_same : (p q : Known) → (not (is_same p q) || (p.ids == q.ids)) ≡ true
      → (if is_same p q then share xs ys name p else 0) ≡ (if is_same q p then share ys xs name q else 0)
  pair_same p q ids = let told = superseded_sym xs ys p.name p.version in grind (arith, bytes_eq-Decides, nat_tests)

-- ---- the law

pub offsets_same : (xs ys : List Known) → lists_each_once xs ≡ true → lists_each_once ys ≡ true → know_same_ids xs ys ≡ true → (name : List ℕ)
    → offset_of xs (announced ys) name ≡ offset_of ys (announced xs) name
offsets_same xs ys once_here once_there know name =
    (λ t. 0x10 + sum_by (λ p. ids_pairs xs ys name once_there p t) xs)
    ∙ ap (λ n. 0x10 + n) (sum_where (λ p. list_all (λ q. not (is_same p q) || (p.ids == q.ids)) ys) _ _
    (λ p all. sum_where (λ q. not (is_same p q) || (p.ids == q.ids)) _ _ (pair_same xs ys name p) ys all) xs know)
    ∙ ap (λ n. 0x10 + n) (sum_swap (λ p q. if is_same q p then share ys xs name q else 0) xs ys)
    ∙ sym (λ t. 0x10 + sum_by (λ q. ids_pairs ys xs name once_here q t) ys)

-- both ends find the same offset
pub offsets_agree : (xs ys : List Known) → lists_each_once xs ≡ true → lists_each_once ys ≡ true → know_same_ids xs ys ≡ true → (name : List ℕ) (version : ℕ)
    → shared_offset xs (announced ys) name version ≡ shared_offset ys (announced xs) name version
offsets_agree xs ys once_here once_there know name version =
    let offsets = offsets_same xs ys once_here once_there know name in let shared = superseded_sym xs ys name version in grind arith
