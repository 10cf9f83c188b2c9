-- Steps of the loops over the pairs of an ordered trie, and the joined items of nodes.
use Rattle.std.proofs.Common.{◌≡◌, ◌≢◌, ◌^◌, ◌<◌, ◌≤◌, ◌+◌, ◌-◌, ◌∙◌, ap, ℕ, zero, suc, Bool, true, false, if◌then◌else◌, List, [], ◌∷◌, ◌++◌, append_assoc, append-nil, drop, get_or, length, map, refl, sym, subst, take, arith, take_all}
use Rattle.std.proofs.lemmas.{Grind.common_steps, Bool.Decides.nat_tests, Bool.cond-true, Bool.cond-false, Bool.eqb-true, List.map-append}
use Rattle.std.proofs.lemmas.{List.length-map, List.length-take-le, List.Elements.{All-drop, All-tail}}
use Rattle.std.specs.{Borrow.Bor, Global.Vec, Prelude.{◌==◌, nat_lt}, Vec.vec_items}
use Rattle.rlp.specs.{Format.Encoding.{Item, encoding, join, string}, Values.Value.number_item}
use Rattle.rlp_format.proofs.Lemmas.{Encodings.encoding_list, Headers.written_header_short}
use Rattle.rlp.specs.Streams.Stream.{list_encoding}
use Rattle.rlp_records.specs.Keccak.{keccak256}
use Rattle.rlp_trie.specs.{EmptyStringLaws.empty_string, HexPrefix.{AreNibbles, hex_prefix}, OrderedPairs.{HaveNibbles, begins_with, seen_pair, slice_bytes, without}, declared.ordered.PathValue.PathValue}
use Rattle.rlp_trie.specs.Ordered.{Pair, below, below_all, branch_item, common, extension_item, in_turn, leaf_item, node, pairs_from, parent, place_path, reference, shared}
use Rattle.rlp_trie.proofs.{Keys.key_bytes, Made.in_turn_at, NodeSizes.hash_length, NodeValues.node_none, PairLemmas.{AllAfter, after_below, shared_after, shared_nibbles}, PathLemmas.nibbles_are}

-- ---- references

-- the string of a hash
hash_written : (h : List ℕ) → length h ≡ 32 → encoding (string h) ≡ 0xa0 ∷ h
unfolding encoding
hash_written [] none = absurd (omega (arith, none))
hash_written (a ∷ []) one = absurd (omega (arith, one))
hash_written (a ∷ b ∷ h) is = rw (written_header_short 0x80 (length (a ∷ b ∷ h)) (omega (arith, is))) (ap (λ n. (0x80 + n) ∷ a ∷ b ∷ h) is)

pub kept_reference : (x : Item) (b items new : List ℕ) → b ≡ encoding x → length b < 32 → new ≡ items ++ b → new ≡ items ++ encoding (reference x)
kept_reference x b items new is few put =
    let test : nat_lt (length (encoding x)) 32 ≡ true = (let same : length b ≡ length (encoding x) = ap length is in grind (arith, nat_tests)) in
    put ∙ ap (λ c. items ++ c) (is ∙ ap encoding (sym (cond-true (nat_lt (length (encoding x)) 32) _ _ test)))

pub hashed_reference : (x : Item) (b items first new : List ℕ) → b ≡ encoding x → 32 ≤ length b → first ≡ items ++ 0xa0 ∷ [] → new ≡ first ++ keccak256 b
    → new ≡ items ++ encoding (reference x)
hashed_reference x b items first new is many put more =
    let test : nat_lt (length (encoding x)) 32 ≡ false = (let same : length b ≡ length (encoding x) = ap length is in grind (arith, nat_tests)) in
    more ∙ ap (λ c. c ++ keccak256 b) put ∙ append_assoc items (0xa0 ∷ []) (keccak256 b)
    ∙ ap (λ c. items ++ c) (sym (hash_written (keccak256 b) (hash_length b)) ∙ ap (λ c. encoding (string (keccak256 c))) is
    ∙ ap encoding (sym (cond-false (nat_lt (length (encoding x)) 32) _ _ test)))

pub ruleset references = (kept_reference, hashed_reference)

-- ---- lists of pairs

-- one element more
taken_suc : {A : Type 0} (xs : List A) (i : ℕ) (d : A) → i < length xs → take (suc i) xs ≡ take i xs ++ get_or xs i d ∷ []
taken_suc [] i d few = absurd (omega (arith, few))
taken_suc (x ∷ xs) zero d few = refl
taken_suc (x ∷ xs) (suc i) d few = ap (λ ys. x ∷ ys) (taken_suc xs i d (omega (arith, few)))

taken : {A : Type 0} (xs : List A) (i : ℕ) (d : A) → i < length xs → take (i + 1) xs ≡ take i xs ++ get_or xs i d ∷ []
taken xs i d few = ap (λ n. take n xs) (let same : i + 1 ≡ suc i = omega arith in same) ∙ taken_suc xs i d few

below_push : (k : ℕ) (ps : List Pair) (p : Pair) → below k (ps ++ p ∷ []) ≡ below k ps ++ below k (p ∷ [])
below_push k [] p = refl
below_push k (([], v) ∷ ps) p = below_push k ps p
below_push k ((n ∷ x, v) ∷ ps) p = grind (arith, nat_tests, below_push k ps p)

shared_push : (x : List ℕ) (ps : List Pair) (p : Pair) → shared x (ps ++ p ∷ []) ≡ common (shared x ps) p.0
shared_push x [] p = refl
shared_push x (q ∷ ps) p = shared_push (common x q.0) ps p

pub below_more : (k i : ℕ) (xs : List PathValue) (d : PathValue) → i < length xs
    → below k (map seen_pair (take (i + 1) xs)) ≡ below k (map seen_pair (take i xs)) ++ below k (seen_pair (get_or xs i d) ∷ [])
below_more k i xs d few =
    ap (λ ys. below k (map seen_pair ys)) (taken xs i d few) ∙ ap (below k) (map-append seen_pair (take i xs) (get_or xs i d ∷ []))
    ∙ below_push k (map seen_pair (take i xs)) (seen_pair (get_or xs i d))

pub shared_more : (x : List ℕ) (i : ℕ) (xs : List PathValue) (d : PathValue) → i < length xs
    → shared x (map seen_pair (take (i + 1) xs)) ≡ common (shared x (map seen_pair (take i xs))) (get_or xs i d).path.now
shared_more x i xs d few =
    ap (λ ys. shared x (map seen_pair ys)) (taken xs i d few) ∙ ap (shared x) (map-append seen_pair (take i xs) (get_or xs i d ∷ []))
    ∙ shared_push x (map seen_pair (take i xs)) (seen_pair (get_or xs i d))

pub without_more : (n i : ℕ) (xs : List PathValue) (d : PathValue) → i < length xs
    → without n (map seen_pair (take (i + 1) xs)) ≡ without n (map seen_pair (take i xs)) ++ without n (seen_pair (get_or xs i d) ∷ [])
without_more n i xs d few =
    ap (λ ys. without n (map seen_pair ys)) (taken xs i d few) ∙ ap (without n) (map-append seen_pair (take i xs) (get_or xs i d ∷ []))
    ∙ map-append (λ (p : Pair). let rest : Pair = (drop n p.0, p.1) in rest) (map seen_pair (take i xs)) (seen_pair (get_or xs i d) ∷ [])

common_first : (n : ℕ) (x y : List ℕ) → n < length x → n < length y → get_or x n 0 ≡ get_or y n 0
    → common (drop n x) (drop n y) ≡ get_or x n 0 ∷ common (drop (suc n) x) (drop (suc n) y)
common_first n [] y few small same = absurd (omega (arith, few))
common_first n (a ∷ x) [] few small same = absurd (omega (arith, small))
common_first zero (a ∷ x) (b ∷ y) few small same = grind (arith, nat_tests)
common_first (suc n) (a ∷ x) (b ∷ y) few small same = common_first n x y (omega (arith, few)) (omega (arith, small)) same

pub common_step : (n : ℕ) (x y : List ℕ) → n < length x → n < length y → get_or x n 0 ≡ get_or y n 0
    → common x y ≡ take n x ++ common (drop n x) (drop n y) → common x y ≡ take (n + 1) x ++ common (drop (n + 1) x) (drop (n + 1) y)
common_step n x y few small same was =
    let next : n + 1 ≡ suc n = omega arith in
    subst (λ m. common x y ≡ take m x ++ common (drop m x) (drop m y)) (sym next)
    (was ∙ ap (λ z. take n x ++ z) (common_first n x y few small same)
    ∙ sym (append_assoc (take n x) (get_or x n 0 ∷ []) (common (drop (suc n) x) (drop (suc n) y)))
    ∙ ap (λ z. z ++ common (drop (suc n) x) (drop (suc n) y)) (sym (taken_suc x n 0 few)))

common_nil : (x : List ℕ) → common x [] ≡ []
common_nil [] = refl
common_nil (a ∷ x) = refl

common_none : (n : ℕ) (x y : List ℕ) → length x ≤ n → common (drop n x) (drop n y) ≡ []
common_none zero [] y most = refl
common_none (suc n) [] y most = refl
common_none zero (a ∷ x) y most = absurd (omega (arith, most))
common_none (suc n) (a ∷ x) [] most = common_nil (drop n x)
common_none (suc n) (a ∷ x) (b ∷ y) most = common_none n x y (omega (arith, most))

common_over : (n : ℕ) (x y : List ℕ) → length y ≤ n → common (drop n x) (drop n y) ≡ []
common_over zero [] [] most = refl
common_over zero (a ∷ x) [] most = refl
common_over (suc n) [] [] most = refl
common_over (suc n) (a ∷ x) [] most = common_nil (drop n x)
common_over zero x (b ∷ y) most = absurd (omega (arith, most))
common_over (suc n) [] (b ∷ y) most = refl
common_over (suc n) (a ∷ x) (b ∷ y) most = common_over n x y (omega (arith, most))

common_other : (n : ℕ) (x y : List ℕ) → n < length x → n < length y → get_or x n 0 ≢ get_or y n 0 → common (drop n x) (drop n y) ≡ []
common_other n [] y few small other = absurd (omega (arith, few))
common_other n (a ∷ x) [] few small other = absurd (omega (arith, small))
common_other zero (a ∷ x) (b ∷ y) few small other = by (a == b) refl
  where
    by : (t : Bool) → (a == b) ≡ t → (if t then a ∷ common x y else []) ≡ []
    by true same = absurd (other (eqb-true a b same))
    by false differ = refl
common_other (suc n) (a ∷ x) (b ∷ y) few small other = common_other n x y (omega (arith, few)) (omega (arith, small)) other

ended : (n : ℕ) (x y : List ℕ) → common (drop n x) (drop n y) ≡ [] → common x y ≡ take n x ++ common (drop n x) (drop n y) → take n x ≡ common x y
ended n x y none was = sym (was ∙ ap (λ z. take n x ++ z) none ∙ append-nil (take n x))

pub ends_first : (n : ℕ) (x y : List ℕ) → length x ≤ n → common x y ≡ take n x ++ common (drop n x) (drop n y) → take n x ≡ common x y
ends_first n x y most was = ended n x y (common_none n x y most) was

pub ends_second : (n : ℕ) (x y : List ℕ) → length y ≤ n → common x y ≡ take n x ++ common (drop n x) (drop n y) → take n x ≡ common x y
ends_second n x y most was = ended n x y (common_over n x y most) was

pub ends_differ : (n : ℕ) (x y : List ℕ) → n < length x → n < length y → get_or x n 0 ≢ get_or y n 0
    → common x y ≡ take n x ++ common (drop n x) (drop n y) → take n x ≡ common x y
ends_differ n x y few small other was = ended n x y (common_other n x y few small other) was

pub below_one : (k : ℕ) (p : PathValue) → below k (seen_pair p ∷ [])
    ≡ (if begins_with k p.path.now then (let rest : Pair = (drop 1 p.path.now, p.value.now) in rest ∷ []) else [])
below_one k p = by p.path.now
  where
    by : (x : List ℕ) → below k ((x, p.value.now) ∷ []) ≡ (if begins_with k x then (let rest : Pair = (drop 1 x, p.value.now) in rest ∷ []) else [])
    by [] = refl
    by (n ∷ x) = refl

pub below_taken : (k i : ℕ) (xs : List PathValue) (d : PathValue) (found : List Pair) → i < length xs → begins_with k (get_or xs i d).path.now ≡ true
    → found ≡ below k (map seen_pair (take i xs))
    → found ++ (let p : Pair = (drop 1 (get_or xs i d).path.now, (get_or xs i d).value.now) in p) ∷ [] ≡ below k (map seen_pair (take (i + 1) xs))
below_taken k i xs d found few begins is =
    ap (λ ys. ys ++ (let p : Pair = (drop 1 (get_or xs i d).path.now, (get_or xs i d).value.now) in p) ∷ []) is
    ∙ ap (λ ys. below k (map seen_pair (take i xs)) ++ ys) (sym (below_one k (get_or xs i d) ∙ cond-true (begins_with k (get_or xs i d).path.now) _ _ begins))
    ∙ sym (below_more k i xs d few)

pub below_pushed : (k i : ℕ) (xs : List PathValue) (d : PathValue) (old new : List PathValue) (p : PathValue) → new ≡ old ++ p ∷ []
    → p.path.now ≡ drop 1 (get_or xs i d).path.now → p.value.now ≡ (get_or xs i d).value.now → i < length xs
    → begins_with k (get_or xs i d).path.now ≡ true → map seen_pair old ≡ below k (map seen_pair (take i xs))
    → map seen_pair new ≡ below k (map seen_pair (take (i + 1) xs))
below_pushed k i xs d old new p pushed path value few begins is =
    ap (map seen_pair) pushed ∙ map-append seen_pair old (p ∷ [])
    ∙ ap (λ (q : Pair). map seen_pair old ++ q ∷ []) (let same : seen_pair p ≡ (drop 1 (get_or xs i d).path.now, (get_or xs i d).value.now) = (λ j. (path j, value j)) in same)
    ∙ below_taken k i xs d (map seen_pair old) few begins is

pub below_passed : (k i : ℕ) (xs : List PathValue) (d : PathValue) (found : List Pair) → i < length xs → begins_with k (get_or xs i d).path.now ≡ false
    → found ≡ below k (map seen_pair (take i xs)) → found ≡ below k (map seen_pair (take (i + 1) xs))
below_passed k i xs d found few begins is =
    is ∙ sym (append-nil (below k (map seen_pair (take i xs))))
    ∙ ap (λ ys. below k (map seen_pair (take i xs)) ++ ys) (sym (below_one k (get_or xs i d) ∙ cond-false (begins_with k (get_or xs i d).path.now) _ _ begins))
    ∙ sym (below_more k i xs d few)

-- ---- nodes

pub in_turn_push : {A : Type 0} (f : ℕ → A) (k n : ℕ) → in_turn f k (n + 1) ≡ in_turn f k n ++ f (k + n) ∷ []
in_turn_push f k n = ap (in_turn f k) (let e : n + 1 ≡ suc n = omega arith in e) ∙ pushed f k n
  where
    pushed : {A : Type 0} (f : ℕ → A) (k n : ℕ) → in_turn f k (suc n) ≡ in_turn f k n ++ f (k + n) ∷ []
    pushed f k zero = ap (λ i. f i ∷ []) (let e : k ≡ k + 0 = omega arith in e)
    pushed f k (suc n) = ap (λ xs. f k ∷ xs) (pushed f (suc k) n ∙ ap (λ i. in_turn f (suc k) n ++ f i ∷ []) (let e : suc k + n ≡ k + suc n = omega arith in e))

-- ---- the node of pairs

join-more : (xs : List Item) (x : Item) → join (xs ++ x ∷ []) ≡ join xs ++ encoding x
join-more xs x = grind (arith, common_steps)

pub join_push : (f : ℕ → Item) (n : ℕ) → join (in_turn f 0 (n + 1)) ≡ join (in_turn f 0 n) ++ encoding (f n)
join_push f n = ap join (in_turn_push f 0 n) ∙ join-more (in_turn f 0 n) (f (0 + n)) ∙ ap (λ i. join (in_turn f 0 n) ++ encoding (f i)) (let e : 0 + n ≡ n = omega arith in e)

-- the list of a branch, from its joined items
pub branch_done : (f : ℕ → Item) (old new : List ℕ) → new ≡ old ++ 0x80 ∷ [] → old ≡ join (in_turn (λ k. reference (f k)) 0 16)
    → list_encoding new ≡ encoding (branch_item f)
branch_done f old new put was =
    let xs = in_turn (λ k. reference (f k)) 0 16 in
    ap list_encoding (put ∙ ap (λ b. b ++ 0x80 ∷ []) was ∙ ap (λ b. join xs ++ b) (sym empty_string) ∙ sym (join-more xs (string [])))
    ∙ sym (encoding_list (xs ++ string [] ∷ []))

-- the list of an extension, from its joined items
pub extension_done : (x : List ℕ) (inner : Item) (path new : List ℕ) → path ≡ encoding (string (hex_prefix false x)) → new ≡ path ++ encoding (reference inner)
    → list_encoding new ≡ encoding (extension_item x inner)
extension_done x inner path new is put =
    ap list_encoding (put ∙ ap (λ b. b ++ encoding (reference inner)) is ∙ ap (λ b. encoding (string (hex_prefix false x)) ++ b) (sym (append-nil (encoding (reference inner)))))
    ∙ sym (encoding_list (string (hex_prefix false x) ∷ reference inner ∷ []))

-- ---- nibbles

nibbles_if : (x v : List ℕ) (ps : List Pair) (t : Bool) → AreNibbles x → HaveNibbles ps → HaveNibbles (if t then (x, v) ∷ ps else ps)
nibbles_if x v ps true are all = (are, all)
nibbles_if x v ps false are all = all

pub nibbles_below : (k : ℕ) (ps : List Pair) → HaveNibbles ps → HaveNibbles (below k ps)
nibbles_below k [] all = tt
nibbles_below k (([], v) ∷ ps) (are, all) = nibbles_below k ps all
nibbles_below k ((n ∷ x, v) ∷ ps) (are, all) = nibbles_if x v (below k ps) (n == k) (All-tail (λ n. n < 16) n x are) (nibbles_below k ps all)

pub nibbles_without : (n : ℕ) (ps : List Pair) → HaveNibbles ps → HaveNibbles (without n ps)
nibbles_without n [] all = tt
nibbles_without n (p ∷ ps) (are, all) = (All-drop (λ n. n < 16) n p.0 are, nibbles_without n ps all)

pub nibbles_first : (xs : List PathValue) (d : PathValue) → 0 < length xs → HaveNibbles (map seen_pair xs) → AreNibbles (get_or xs 0 d).path.now
nibbles_first [] d some all = absurd (omega (arith, some))
nibbles_first (p ∷ xs) d some (are, all) = are

pub own_nibbles : (own x : List ℕ) (ps : List Pair) → own ≡ shared x ps → AreNibbles x → AreNibbles own
own_nibbles own x ps is are = subst AreNibbles (sym is) (shared_nibbles x ps are)

pub nibbles_from : (i : ℕ) (vs : List (List ℕ)) → i + length vs ≤ 2 ^ 64 → HaveNibbles (pairs_from i vs)
nibbles_from i [] fits = tt
nibbles_from i (v ∷ vs) fits = (nibbles_are (encoding (number_item i)) (key_bytes i (omega arith)), nibbles_from (suc i) vs (omega arith))

pub node_zero : (turns : ℕ) (ps : List Pair) → turns ≡ 0 → node turns ps ≡ string []
unfolding node
node_zero zero ps is = refl
node_zero (suc turns) ps is = absurd (omega (arith, is))

pub node_empty : (turns : ℕ) (xs : List PathValue) → length xs ≡ 0 → node turns (map seen_pair xs) ≡ string []
node_empty turns [] none = node_none turns
node_empty turns (p ∷ xs) none = absurd (omega (arith, none))

pub node_leaf : (turns : ℕ) (xs : List PathValue) (d : PathValue) → 0 < turns → length xs ≡ 1
    → node turns (map seen_pair xs) ≡ leaf_item (get_or xs 0 d).path.now (get_or xs 0 d).value.now
unfolding node
node_leaf zero xs d some one = absurd (omega (arith, some))
node_leaf (suc turns) [] d some one = absurd (omega (arith, one))
node_leaf (suc turns) (p ∷ []) d some one = refl
node_leaf (suc turns) (p ∷ q ∷ xs) d some one = absurd (omega (arith, one))

drop_twice : (n : ℕ) (x : List ℕ) → drop n (drop 1 x) ≡ drop (suc n) x
drop_twice zero [] = refl
drop_twice (suc n) [] = refl
drop_twice n (a ∷ x) = refl

without_twice : (n : ℕ) (ps : List Pair) → without n (without 1 ps) ≡ without (suc n) ps
without_twice n [] = refl
without_twice n (p ∷ ps) =
    let first = drop_twice n p.0 in
    let rest = without_twice n ps in
    let pair : (let q : Pair = (drop n (drop 1 p.0), p.1) in q) ≡ (drop (suc n) p.0, p.1) = (λ j. (first j, p.1)) in
    cc

below_without : (k : ℕ) (own : List ℕ) (ps : List Pair) → AllAfter (k ∷ own) ps → below k ps ≡ without 1 ps
below_without k own [] all = refl
below_without k own (([], v) ∷ ps) ((rest, is), all) = absurd (let no : ⊥ = cc in no)
below_without k own ((n ∷ x, v) ∷ ps) ((rest, is), all) =
    let same : n ≡ k = cc in
    let test : (n == k) ≡ true = grind (arith, nat_tests) in
    cond-true (n == k) _ _ test ∙ ap (λ qs. (let q : Pair = (x, v) in q) ∷ qs) (below_without k own ps all)

below_all_without : (own : List ℕ) (ps : List Pair) → AllAfter own ps → below_all own ps ≡ without (length own) ps
below_all_without [] ps all = sym (without_none ps)
  where
    without_none : (ps : List Pair) → without 0 ps ≡ ps
    without_none [] = refl
    without_none (p ∷ ps) = ap (λ qs. p ∷ qs) (without_none ps)
below_all_without (k ∷ own) ps all =
    below_all_without own (below k ps) (after_below k own ps all) ∙ ap (without (length own)) (below_without k own ps all)
    ∙ without_twice (length own) ps

pub node_branch : (turns : ℕ) (xs : List PathValue) (d : PathValue) (own : List ℕ) → 0 < turns → 1 < length xs
    → own ≡ shared (get_or xs 0 d).path.now (map seen_pair (drop 1 xs)) → length own ≡ 0
    → node turns (map seen_pair xs) ≡ branch_item (λ k. node (turns - 1) (below k (map seen_pair xs)))
unfolding node
node_branch zero xs d own some many is none = absurd (omega (arith, some))
node_branch (suc turns) [] d own some many is none = absurd (omega (arith, many))
node_branch (suc turns) (p ∷ []) d own some many is none = absurd (omega (arith, many))
node_branch (suc turns) (p ∷ q ∷ xs) d [] some many is none =
    ap (parent (node turns) (map seen_pair (p ∷ q ∷ xs))) (sym is)
    ∙ ap (λ t. branch_item (λ k. node t (below k (map seen_pair (p ∷ q ∷ xs))))) (let e : turns ≡ suc turns - 1 = omega arith in e)
node_branch (suc turns) (p ∷ q ∷ xs) d (k ∷ own) some many is none = absurd (omega (arith, none))

pub node_extension : (turns : ℕ) (xs : List PathValue) (d : PathValue) (own : List ℕ) → 0 < turns → 1 < length xs
    → own ≡ shared (get_or xs 0 d).path.now (map seen_pair (drop 1 xs)) → ¬ (length own ≡ 0)
    → node turns (map seen_pair xs) ≡ extension_item own (node (turns - 1) (without (length own) (map seen_pair xs)))
unfolding node
node_extension zero xs d own some many is other = absurd (omega (arith, some))
node_extension (suc turns) [] d own some many is other = absurd (omega (arith, many))
node_extension (suc turns) (p ∷ []) d own some many is other = absurd (omega (arith, many))
node_extension (suc turns) (p ∷ q ∷ xs) d [] some many is other = absurd (other refl)
node_extension (suc turns) (p ∷ q ∷ xs) d (k ∷ own) some many is other =
    let ps = map seen_pair (p ∷ q ∷ xs) in
    ap (parent (node turns) ps) (sym is)
    ∙ ap (λ qs. extension_item (k ∷ own) (node turns qs))
    (below_all_without (k ∷ own) ps (subst (λ o. AllAfter o ps) (sym is) (shared_after (seen_pair p) (map seen_pair (q ∷ xs)))))
    ∙ ap (λ t. extension_item (k ∷ own) (node t (without (length (k ∷ own)) ps))) (let e : turns ≡ suc turns - 1 = omega arith in e)

pub ruleset node_cases = (node_zero, node_empty, node_leaf)

all_taken : (xs : List PathValue) → take (length xs - 1) (drop 1 xs) ≡ drop 1 xs
all_taken [] = refl
all_taken (x ∷ xs) = take_all (length (x ∷ xs) - 1) xs (omega arith)

-- what the paths share, by the first one and the others
pub own_is : (own : List ℕ) (xs : List PathValue) (first d : PathValue) → own ≡ shared first.path.now (map seen_pair (take (length xs - 1) (drop 1 xs)))
    → first ≡ get_or xs 0 d → own ≡ shared (get_or xs 0 d).path.now (map seen_pair (drop 1 xs))
own_is own xs first d is same =
    is ∙ ap (λ ys. shared first.path.now (map seen_pair ys)) (all_taken xs) ∙ ap (λ (p : PathValue). shared p.path.now (map seen_pair (drop 1 xs))) same

-- ---- the pairs of a list

pub path_more : (n : ℕ) (old new : List (Vec ℕ)) (p : Vec ℕ) → new ≡ old ++ p ∷ [] → map vec_items old ≡ in_turn place_path 0 n
    → vec_items p ≡ place_path n → map vec_items new ≡ in_turn place_path 0 (n + 1)
path_more n old new p pushed was is =
    ap (map vec_items) pushed ∙ map-append vec_items old (p ∷ []) ∙ ap (λ xs. xs ++ vec_items p ∷ []) was
    ∙ ap (λ x. in_turn place_path 0 n ++ x ∷ []) (is ∙ ap place_path (let e : n ≡ 0 + n = omega arith in e))
    ∙ sym (in_turn_push place_path 0 n)

pairs_push : (i : ℕ) (vs : List (List ℕ)) (v : List ℕ) → pairs_from i (vs ++ v ∷ []) ≡ pairs_from i vs ++ (let p : Pair = (place_path (i + length vs), v) in p) ∷ []
pairs_push i [] v = ap (λ n. (let p : Pair = (place_path n, v) in p) ∷ []) (let e : i ≡ i + 0 = omega arith in e)
pairs_push i (w ∷ vs) v =
    ap (λ ps. (let p : Pair = (place_path i, w) in p) ∷ ps)
    (pairs_push (suc i) vs v ∙ ap (λ n. pairs_from (suc i) vs ++ (let p : Pair = (place_path n, v) in p) ∷ []) (let e : suc i + length vs ≡ i + suc (length vs) = omega arith in e))

mapped_at : {A B : Type 0} (f : A → B) (xs : List A) (n : ℕ) (d : A) (e : B) → n < length xs → get_or (map f xs) n e ≡ f (get_or xs n d)
mapped_at f [] n d e few = absurd (omega (arith, few))
mapped_at f (x ∷ xs) zero d e few = refl
mapped_at f (x ∷ xs) (suc n) d e few = mapped_at f xs n d e (omega (arith, few))

pub pair_more : (n : ℕ) (values : List (Bor (List ℕ))) (paths : List (Vec ℕ)) (d : Vec ℕ) (e : Bor (List ℕ)) (old new : List PathValue) (p : PathValue)
    → new ≡ old ++ p ∷ [] → p.path.now ≡ vec_items (get_or paths n d) → p.value.now ≡ (get_or values n e).now → n < length values
    → length paths ≡ length values → map vec_items paths ≡ in_turn place_path 0 (length values)
    → map seen_pair old ≡ pairs_from 0 (take n (map slice_bytes values)) → map seen_pair new ≡ pairs_from 0 (take (n + 1) (map slice_bytes values))
pair_more n values paths d e old new p pushed path value few same all was =
    let vs = map slice_bytes values in
    let many : n < length vs = omega (arith, few, length-map values slice_bytes) in
    let taken_n : length (take n vs) ≡ n = length-take-le n vs (omega (arith, many)) in
    let is : p.path.now ≡ place_path n =
    path ∙ sym (mapped_at vec_items paths n d [] (omega (arith, few, same))) ∙ ap (λ xs. get_or xs n []) all
    ∙ in_turn_at place_path [] (length values) 0 n few ∙ ap place_path (let e : 0 + n ≡ n = omega arith in e) in
    let also : p.value.now ≡ get_or vs n [] = value ∙ sym (mapped_at slice_bytes values n e [] few) in
    let pair : seen_pair p ≡ (place_path (0 + length (take n vs)), get_or vs n []) =
    (λ j. ((is ∙ ap place_path (let e : n ≡ 0 + length (take n vs) = omega (arith, taken_n) in e)) j, also j)) in
    ap (map seen_pair) pushed ∙ map-append seen_pair old (p ∷ []) ∙ ap (λ ps. ps ++ seen_pair p ∷ []) was
    ∙ ap (λ (q : Pair). pairs_from 0 (take n vs) ++ q ∷ []) pair
    ∙ sym (pairs_push 0 (take n vs) (get_or vs n [])) ∙ ap (pairs_from 0) (sym (taken vs n [] many))

pub all_values : (n : ℕ) (values : List (Bor (List ℕ))) → length values ≤ n → take n (map slice_bytes values) ≡ map slice_bytes values
all_values n values most = take_all n (map slice_bytes values) (omega (arith, most, length-map values slice_bytes))
