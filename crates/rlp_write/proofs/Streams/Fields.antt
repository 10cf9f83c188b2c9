-- Values that are appended one after another, such as the fields of a struct.
use Rattle.std.proofs.Common.{◌≡◌, ◌<◌, ◌≤◌, ◌+◌, ℕ, zero, suc, List, [], ◌∷◌, ◌++◌, length, take, drop, get_or, map, refl, sym}
use Rattle.std.proofs.{Common.{ap, ◌∙◌, subst, arith, append-nil, append_assoc, length-append}, lemmas.List.{length-map, take_all, take_more, take-append-drop}}
use Rattle.std.proofs.lemmas.List.Concat.{flat_map-append, flat_map_single}
use Rattle.std.specs.List.{All}
use Rattle.rlp_format.specs.{Format.Encoding.{Item, list_of}, Values.Value.all_items}
use Rattle.rlp_write.specs.{Streams.Stream.{State, Seen, add, add_all, put_item, with_list_of}, Streams.Growth.GrowsTo, Streams.Fields.AppendsSome}
use Rattle.rlp_write.proofs.{Streams.Filling.{all_more, filled_list, grows_filling}, Streams.Growth.growth}

add_all-append : (xs ys : List Item) (s : State) → add_all (xs ++ ys) s ≡ add_all ys (add_all xs s)
add_all-append [] ys s = refl
add_all-append (x ∷ xs) ys s = add_all-append xs ys (add x s)

-- none was appended
pub some_none : (x : Item) (xs : List Item) (s t : State) → t ≡ s → AppendsSome (x ∷ xs) s t
some_none x xs s t is = record { before = []; next = x; after = xs; all = refl; is = is }

-- some of the first, and so of all
pub some_first : (xs ys : List Item) (s t : State) → AppendsSome xs s t → AppendsSome (xs ++ ys) s t
some_first xs ys s t p = grind (arith, append_assoc)

-- the first, and some of the others
pub some_second : (xs ys : List Item) (s t u : State) → t ≡ add_all xs s → AppendsSome ys t u → AppendsSome (xs ++ ys) s u
some_second xs ys s t u first p =
    record {
      before = xs ++ p.before;
      next = p.next;
      after = p.after;
      all = ap (λ zs. xs ++ zs) p.all ∙ sym (append_assoc xs p.before (p.next ∷ p.after));
      is = p.is ∙ ap (add_all p.before) first ∙ sym (add_all-append xs p.before s);
    }

-- the first, and then the others
pub both_added : (xs ys : List Item) (s t u : State) → t ≡ add_all xs s → u ≡ add_all ys t → u ≡ add_all (xs ++ ys) s
both_added xs ys s t u first second = second ∙ ap (add_all ys) first ∙ sym (add_all-append xs ys s)

-- a part of the items of a list that was begun
pub some_grows : (xs : List Item) (n : ℕ) (s t u : State) → n ≡ length xs → t ≡ with_list_of n s → AppendsSome xs t u → GrowsTo s u
some_grows xs n s t u many begun p =
    let few : length p.before < n = omega (arith, many, ap length p.all, length-append p.before (p.next ∷ p.after)) in
    grows_filling p.before n s u few (p.is ∙ ap (add_all p.before) begun)

-- all items of a list that was begun
pub all_fill : (xs : List Item) (n : ℕ) (s t u : State) → n ≡ length xs → t ≡ with_list_of n s → u ≡ add_all xs t → u ≡ put_item (list_of xs) s
all_fill xs n s t u many begun added = filled_list xs n s u (sym many) (added ∙ ap (add_all xs) begun)

-- ---- values that are several items each

-- values that are one item each
pub one_each : {A : Type 0} (item : A → Item) (values : List A) → all_items (λ v. item v ∷ []) values ≡ map item values
one_each item values = flat_map_single item values

-- the progress of appending them: this many were appended
pub record Appended {A : Type 0} (items : A → List Item) (fit : A → Type 0) (values : List A) (i : ℕ) (old new : Seen) : Type 0 where
  pub state : new.state ≡ add_all (all_items items (take i values)) old.state
  pub moved : old.moved ≤ new.moved
  pub fits : All fit (take i values)

-- all items of some values, and some of the next value's
pub flattened_at : {A : Type 0} (items : A → List Item) (values : List A) (i : ℕ) (x d : A) (s t u : State) → i < length values
    → x ≡ get_or values i d → t ≡ add_all (all_items items (take i values)) s → AppendsSome (items x) t u → AppendsSome (all_items items values) s u
flattened_at items [] i x d s t u inside is at part = absurd (omega arith)
flattened_at items (v ∷ vs) zero x d s t u inside is at part = grind (arith, some_first)
flattened_at items (v ∷ vs) (suc i) x d s t u inside is at part =
    grind (
      arith,
      some_second,
      add_all-append,
      flattened_at items vs i x d (add_all (items v) s) t u (omega arith) is (at ∙ add_all-append (items v) (all_items items (take i vs)) s) part,
    )

-- the same for values that are one item each
pub some_at : {A : Type 0} (item : A → Item) (values : List A) (i : ℕ) (x d : A) (s t u : State) → i < length values → x ≡ get_or values i d
    → t ≡ add_all (all_items (λ v. item v ∷ []) (take i values)) s → u ≡ t → AppendsSome (map item values) s u
some_at item values i x d s t u inside is at same =
    subst (λ zs. AppendsSome zs s u) (one_each item values)
    (flattened_at (λ v. item v ∷ []) values i x d s t u inside is at (some_none (item x) [] t u same))

all_items-append : {A : Type 0} (items : A → List Item) (xs ys : List A) → all_items items (xs ++ ys) ≡ all_items items xs ++ all_items items ys
all_items-append items xs ys = flat_map-append items xs ys

-- the items of one more value
all_items-more : {A : Type 0} (items : A → List Item) (values : List A) (i : ℕ) (x d : A) → i < length values → x ≡ get_or values i d
    → all_items items (take (i + 1) values) ≡ all_items items (take i values) ++ items x
all_items-more items values i x d inside is =
    ap (all_items items) (take_more values i d inside) ∙ all_items-append items (take i values) (get_or values i d ∷ [])
    ∙ ap (λ zs. all_items items (take i values) ++ zs) (append-nil (items (get_or values i d)) ∙ ap items (sym is))

-- one more value
pub appended_more : {A : Type 0} (items : A → List Item) (fit : A → Type 0) (values : List A) (i : ℕ) (x d : A) (s t u : Seen) → i < length values
    → x ≡ get_or values i d → Appended items fit values i s t → u.state ≡ add_all (items x) t.state → t.moved ≤ u.moved → fit x
    → Appended items fit values (i + 1) s u
appended_more items fit values i x d s t u inside is h next moved one = record {
  state = next ∙ ap (add_all (items x)) h.state ∙ sym (add_all-append (all_items items (take i values)) (items x) s.state)
      ∙ ap (λ zs. add_all zs s.state) (sym (all_items-more items values i x d inside is));
  moved = omega (arith, h.moved);
  fits = all_more fit values i x d inside is h.fits one;
}

-- ---- the number of items

-- some values have no more items than all
counted_within : {A : Type 0} (items : A → List Item) (values : List A) (i : ℕ) → length (all_items items (take i values)) ≤ length (all_items items values)
counted_within items values i =
    let all = ap (all_items items) (sym (take-append-drop i values)) ∙ all_items-append items (take i values) (drop i values) in
    omega (arith, ap length all, length-append (all_items items (take i values)) (all_items items (drop i values)))

-- with one more value
pub counted_more : {A : Type 0} (items : A → List Item) (values : List A) (i n m : ℕ) (x d : A) → i < length values → x ≡ get_or values i d
    → n ≡ length (all_items items (take i values)) → m ≡ length (items x) → n + m ≡ length (all_items items (take (i + 1) values))
counted_more items values i n m x d inside is before one =
    let whole : length (all_items items (take (i + 1) values)) ≡ length (all_items items (take i values)) + length (items x) =
    ap length (all_items-more items values i x d inside is) ∙ length-append (all_items items (take i values)) (items x) in
    omega (arith, whole, before, one)

-- the first values have at most as many items as all values
pub counted_so_far : {A : Type 0} (items : A → List Item) (values : List A) (i : ℕ) (x d : A) → i < length values → x ≡ get_or values i d
    → length (all_items items (take i values)) + length (items x) ≤ length (all_items items values)
counted_so_far items values i x d inside is =
    let sum = counted_more items values i (length (all_items items (take i values))) (length (items x)) x d inside is refl refl in
    let few = counted_within items values (i + 1) in
    omega (arith, sum, few)

pub ruleset counts = (length-map, length-append)

pub ruleset pairs = (some_first, some_second, both_added)

pub ruleset filled = (some_grows, all_fill, growth)

pub ruleset each = (one_each, some_at, take_all)

pub ruleset flattened = (flattened_at, take_all, counted_more, counted_so_far)
