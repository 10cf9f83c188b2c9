-- Groups of fields at the end of a struct.
use Rattle.std.proofs.Common.{◌≡◌, ℕ, ◌+◌, ◌*◌, ◌%◌, ◌<◌, List, [], ◌∷◌, ◌++◌, length, sym, ap, ◌∙◌, arith, length-append, Bool, Err, IfOk, Ok, Result}
use Rattle.std.proofs.{Common.{append-nil, append_assoc, eq-eqb, false, map, refl, subst, suc, true, zero, ◌==◌, ◌^◌, ◌≤◌}, lemmas.Grind.{common_steps}}
use Rattle.std.proofs.{Math.Nat.{mod-eq_of_lt, suc-mul}, lemmas.List.{length-map, map-append}, lemmas.List.Elements.{All-from_recursion, recursion_from_All}}
use Rattle.std.specs.List.{AllByRecursion}
use Rattle.rlp_format.specs.{Format.Encoding.{Item, IsSized, encoding}, Values.Value.all_items}
use Rattle.rlp_reading.specs.{Views.View.{View}, Form.{Answer, Fault, FieldsForm, FieldsReading, Path, Taken, go_on, group_fields, groups, map_taken, map_value}}
use Rattle.rlp_reading.specs.{Form.{most_groups, take_each}, Laws.{AreLawful, AreSeen, IsStrictPart, TakePossible, TakeWidth, TakesBack, TakesOnly, viewed, views_of}}
use Rattle.rlp_reading.proofs.{ListLaws.{goes_on, is_mapped, lists_fit}, FieldLaws.{all_first, ok_same, both_left, views_append}}

module _ {G : Type 0} (width : ℕ) (items_of : G → List Item) (counted : (g : G) → length (items_of g) ≡ width) where
  -- the number of items of groups
  pub groups_counted : (gs : List G) → length (all_items items_of gs) ≡ length gs * width
  groups_counted [] = omega arith
  groups_counted (g ∷ gs) = grind (arith, length-append, suc-mul, groups_counted gs)

-- ---- groups at the end

-- groups that have items are at most as many as the items
pub as_many : (width n : ℕ) → 0 < width → most_groups width n ≡ n
as_many width n some = grind arith

-- groups that are all of the items are a whole number of groups
module _ {A : Type 0} (r : FieldsReading A) (law : TakeWidth r) (some : 0 < r.width) where
  abbrev Whole : ℕ → List View → Type 0
  Whole n left = left ≡ [] → (n % r.width == 0) ≡ true

  no_items : (0 % r.width == 0) ≡ true
  no_items = eq-eqb _ _ (mod-eq_of_lt some)

  one_before : (n m : ℕ) → n ≡ r.width + m → (m % r.width == 0) ≡ true → (n % r.width == 0) ≡ true
  one_before n m many whole = grind arith

  whole_groups_by : (turns : ℕ) (vs : List View) → IfOk (take_each r.read turns vs).result (λ t. Whole (length vs) t.1)
  whole_groups_by zero vs = λ none. ap (λ ws. length ws % r.width == 0) none ∙ no_items
  whole_groups_by (suc turns) [] = λ none. no_items
  whole_groups_by (suc turns) (v ∷ vs) =
      both_left (λ (m : r.M) (ms : List r.M). m ∷ ms) (λ left. length (v ∷ vs) ≡ r.width + length left) (λ left rest. Whole (length left) rest) (Whole (length (v ∷ vs)))
      (r.read (v ∷ vs)).result (take_each r.read turns) (λ left rest many whole none. one_before (length (v ∷ vs)) (length left) many (whole none))
      (law.taken (v ∷ vs)) (whole_groups_by turns)

pub groups_possible : {A P : Type 0} (values : P → List A) (r : FieldsReading A) → TakeWidth r → TakePossible (group_fields values r)
groups_possible values r law = record { all = λ vs. by r.width refl vs }
  where
    by : (w : ℕ) → r.width ≡ w → (vs : List View) → IfOk (take_each r.read (most_groups w (length vs)) vs).result (λ t. t.1 ≡ [] → (length vs % w == 0) ≡ true)
    by zero is vs = λ none. ap (λ ws. length ws % 0 == 0) none
    by (suc w) is vs = subst (λ w. IfOk (take_each r.read (length vs) vs).result (λ t. t.1 ≡ [] → (length vs % w == 0) ≡ true)) is
        (whole_groups_by r law (omega (arith, is)) (length vs) vs)

module _ {A P : Type 0} (values : P → List A) (f : FieldsForm A) (fixed : f.reading.is_fixed ≡ true) (some : (0 == f.reading.width) ≡ false) where
  not_zero : 0 < f.reading.width
  not_zero = grind arith

  abbrev each : ℕ → List View → Result (List f.reading.M × List View) (List View × Fault)
  each turns vs = (take_each f.reading.read turns vs).result

  abbrev before : f.reading.M → Result (List f.reading.M × List View) (List View × Fault) → Result (List f.reading.M × List View) (List View × Fault)
  before x r = map_value (λ t. (x ∷ t.0, t.1)) r

  one_more : (is_strict : Bool) (x : A) (xs : List Item) (turns : ℕ) (ys : List View) → 0 < length xs
      → (f.reading.read (views_of is_strict xs ++ ys)).result ≡ Ok (f.reading.seen x, ys)
      → each (suc turns) (views_of is_strict xs ++ ys) ≡ before (f.reading.seen x) (each turns ys)
  one_more is_strict x [] turns ys many is = absurd (omega arith)
  one_more is_strict x (i ∷ xs) turns ys many is = grind arith

  each_back : (is_strict : Bool) → TakesBack is_strict f → (xs : List A) (turns : ℕ) → AllByRecursion f.Fits xs → AllByRecursion IsSized (all_items f.items xs)
      → length (all_items f.items xs) ≤ turns → each turns (views_of is_strict (all_items f.items xs)) ≡ Ok (map f.reading.seen xs, [])
  each_back is_strict law [] zero all sized enough = refl
  each_back is_strict law [] (suc turns) all sized enough = refl
  each_back is_strict law (x ∷ xs) zero all sized enough = grind (arith, length-append, not_zero)
  each_back is_strict law (x ∷ xs) (suc turns) (fit, all) sized enough =
      let both = all_first IsSized (f.items x) (all_items f.items xs) sized in
      let wide : length (f.items x) ≡ f.reading.width = law.wide x fixed in
      let many : 0 < length (f.items x) = omega (arith, not_zero) in
      let less : length (all_items f.items xs) ≤ turns = omega (arith, length-append (f.items x) (all_items f.items xs)) in
      let ys = views_of is_strict (all_items f.items xs) in
      ap (each (suc turns)) (views_append is_strict (f.items x) (all_items f.items xs))
      ∙ one_more is_strict x (f.items x) turns ys many
      (law.back x ys (λ other. absurd (let no : ⊥ = cc in no)) fit both.0)
      ∙ ap (before (f.reading.seen x)) (each_back is_strict law xs turns all both.1 less)

  -- some groups are a whole number of groups
  groups_right : (is_strict : Bool) → TakesBack is_strict f → (xs : List A) → (length (all_items f.items xs) % f.reading.width == 0) ≡ true
  groups_right is_strict law xs =
      let many : length (all_items f.items xs) ≡ length xs * f.reading.width + 0 =
      omega (arith, groups_counted f.reading.width f.items (λ x. law.wide x fixed) xs) in
      grind arith

  pub groups_back : (is_strict : Bool) → TakesBack is_strict f → TakesBack is_strict (groups values f)
  groups_back is_strict law = record {
    counted = λ p fit. groups_right is_strict law (values p);
    wide = λ p last. absurd (let no : ⊥ = cc in no);
    back = λ p rest last fit sized.
        let vs = views_of is_strict (all_items f.items (values p)) in
        let whole : views_of is_strict (all_items f.items (values p)) ++ rest ≡ views_of is_strict (all_items f.items (values p)) =
        ap (λ ws. vs ++ ws) (last refl) ∙ append-nil vs in
        let many : length (views_of is_strict (all_items f.items (values p))) ≡ length (all_items f.items (values p)) =
        length-map (all_items f.items (values p)) (λ x. viewed is_strict (encoding x)) in
        ap (λ n. each n (vs ++ rest)) (as_many f.reading.width (length (vs ++ rest)) not_zero)
        ∙ ap (λ ws. each (length ws) ws) whole
        ∙ each_back is_strict law (values p) (length vs) (recursion_from_All f.Fits (values p) fit) sized (omega arith)
        ∙ ap (λ ws. Ok (map f.reading.seen (values p), ws)) (sym (last refl));
  }

  -- what is known of the groups that follow goes on with one more
  each_more : TakesOnly f → (vs rest : List View) (xs : List A) → AllByRecursion IsStrictPart vs → (m : f.reading.M) (left : List View)
      → (f.reading.read vs).result ≡ Ok (m, left)
      → (ms : List f.reading.M)
      → ((ys : List A) → AllByRecursion IsStrictPart left → ms ≡ map f.reading.seen ys
      → AllByRecursion f.Fits ys × (left ≡ views_of true (all_items f.items ys) ++ rest))
      → m ∷ ms ≡ map f.reading.seen xs
      → AllByRecursion f.Fits xs × (vs ≡ views_of true (all_items f.items xs) ++ rest)
  each_more law vs rest [] parts m left first ms known same = absurd (let no : ⊥ = cc in no)
  each_more law vs rest (x ∷ xs) parts m left first ms known same =
      let head : m ≡ f.reading.seen x = cc in
      let h = law.only x vs left parts (first ∙ ap (λ y. Ok (y, left)) head) in
      let both = all_first IsStrictPart (views_of true (f.items x)) left (subst (AllByRecursion IsStrictPart) h.1 parts) in
      grind (arith, all_first, append_assoc, views_append)

  none_more : (xs : List A) (vs rest : List View) → (let r : Result (List f.reading.M × List View) (List View × Fault) = Ok ([], vs) in r) ≡ Ok (map f.reading.seen xs, rest)
      → AllByRecursion f.Fits xs × (vs ≡ views_of true (all_items f.items xs) ++ rest)
  none_more [] vs rest is = (tt, ap (λ t. t.1) (ok_same _ _ is))
  none_more (x ∷ xs) vs rest is = absurd (let no : ⊥ = let same = ap (λ t. t.0) (ok_same _ _ is) in cc in no)

  each_only : TakesOnly f → (turns : ℕ) (vs rest : List View) (xs : List A) → AllByRecursion IsStrictPart vs
      → each turns vs ≡ Ok (map f.reading.seen xs, rest) → AllByRecursion f.Fits xs × (vs ≡ views_of true (all_items f.items xs) ++ rest)
  each_only law zero vs rest xs parts is = none_more xs vs rest is
  each_only law (suc turns) [] rest xs parts is = none_more xs [] rest is
  each_only law (suc turns) (v ∷ vs) rest xs parts is =
      let g = goes_on (f.reading.read (v ∷ vs)).result (λ t. before t.0 (each turns t.1)) (map f.reading.seen xs, rest) is in
      let m = is_mapped (each turns g.value.1) (λ (t : List f.reading.M × List View). (g.value.0 ∷ t.0, t.1)) (map f.reading.seen xs, rest) g.then in
      each_more law (v ∷ vs) rest xs parts g.value.0 g.value.1 g.is m.value.0
      (λ ys parts same. each_only law turns g.value.1 rest ys parts (m.is ∙ ap (λ zs. Ok (zs, m.value.1)) same ∙ ap (λ ws. Ok (map f.reading.seen ys, ws)) (ap (λ t. t.1) m.then)))
      (ap (λ t. t.0) m.then)

  each_written : AreSeen f → (xs : List A) → all_items f.reading.items (map f.reading.seen xs) ≡ all_items f.items xs
  each_written law [] = refl
  each_written law (x ∷ xs) = let one = law.written x in let more = each_written law xs in cc

  -- that each group is the same number of items, and not none, is proved by `refl`
  pub groups_lawful : AreLawful f → AreLawful (groups values f)
  groups_lawful law = record {
    told = record { fits = λ p q. lists_fit f.reading.seen f.Fits law.told.fits (values p) (values q); written = λ p. each_written law.told (values p) };
    wide = λ last. absurd (let no : ⊥ = cc in no);
    possible = groups_possible values f.reading (law.wide fixed);
    back = λ is_strict. groups_back is_strict (law.back is_strict);
    exact = record {
      only = λ p vs rest parts is.
          let h = each_only law.exact (most_groups f.reading.width (length vs)) vs rest (values p) parts is in (All-from_recursion f.Fits (values p) h.0, h.1);
    };
  }

-- ---- for bodies of `decode_fields`

-- what follows a value is the same, if it is the same for the value that there is
same_after : {A B E : Type 0} (r : Result A E) (q : Path) (f g : A → Answer B E) → IfOk r (λ x. f x ≡ g x)
    → go_on (record { result = r; path = q }) f ≡ go_on (record { result = r; path = q }) g
same_after r q f g same = grind arith

module _ {A : Type 0} (r : FieldsReading A) (law : TakeWidth r) (some : 0 < r.width) where
  abbrev groups_from : List View → Result (List r.M × List View) (List View × Fault)
  groups_from vs = (take_each r.read (length vs) vs).result

  after_one : (turns others : ℕ) (x : Result (r.M × List View) (List View × Fault)) (v : View) (vs : List View)
      → ((left : List View) → length left ≤ length vs → take_each r.read turns left ≡ take_each r.read others left)
      → IfOk x (λ t. length (v ∷ vs) ≡ r.width + length t.1)
      → IfOk x (λ t. map_taken (λ xs. t.0 ∷ xs) (take_each r.read turns t.1) ≡ map_taken (λ xs. t.0 ∷ xs) (take_each r.read others t.1))
  after_one turns others x v vs same many = grind arith

  -- turns that are as many as the views are enough
  enough_turns : (turns others : ℕ) (vs : List View) → length vs ≤ turns → length vs ≤ others → take_each r.read turns vs ≡ take_each r.read others vs
  enough_turns zero (suc others) (v ∷ vs) few less = absurd (omega (arith, few))
  enough_turns (suc turns) zero (v ∷ vs) few less = absurd (omega (arith, less))
  enough_turns (suc turns) (suc others) (v ∷ vs) few less =
      same_after (r.read (v ∷ vs)).result (r.read (v ∷ vs)).path (λ t. map_taken (λ xs. t.0 ∷ xs) (take_each r.read turns t.1)) (λ t. map_taken (λ xs. t.0 ∷ xs) (take_each r.read others t.1))
      (after_one turns others (r.read (v ∷ vs)).result v vs (λ left many. enough_turns turns others left (omega (arith, many, few)) (omega (arith, many, less))) (law.taken (v ∷ vs)))
  enough_turns turns others vs few less = refl

  -- one group is taken, and then the groups from what it leaves
  pub one_group : (vs left : List View) (m : r.M) → (r.read vs).result ≡ Ok (m, left)
      → groups_from vs ≡ map_value (λ (t : List r.M × List View). (m ∷ t.0, t.1)) (groups_from left)
  one_group vs left m is = grind (arith, enough_turns)

-- a group fails where there is a view
pub group_fails : {M : Type 0} (read : List View → Taken M) (vs : List View) (e : List View × Fault) → ¬ (vs ≡ []) → (read vs).result ≡ Err e
    → (take_each read (length vs) vs).result ≡ Err e
group_fails read vs e more is = grind (arith, common_steps)

-- there is no group where there is no view
pub no_group : {M : Type 0} (read : List View → Taken M) (vs : List View) → vs ≡ [] → (take_each read (length vs) vs).result ≡ Ok ([], vs)
no_group read vs none = grind arith

-- groups that have no items are not read
pub none_read : {M : Type 0} (read : List View → Taken M) (width : ℕ) (vs : List View) → width ≡ 0 → (take_each read (most_groups width (length vs)) vs).result ≡ Ok ([], vs)
none_read read width vs none = grind arith

-- one more group, after those that were read
pub one_pushed : {A M : Type 0} (seen : A → M) (xs : List A) (x : A) (r : Result (List M × List View) (List View × Fault))
    → map_value {B = List M × List View} (λ t. (map seen xs ++ t.0, t.1)) (map_value {B = List M × List View} (λ t. (seen x ∷ t.0, t.1)) r)
    ≡ map_value {B = List M × List View} (λ t. (map seen (xs ++ x ∷ []) ++ t.0, t.1)) r
one_pushed seen xs x r = grind (arith, append_assoc, map-append)

pub ruleset take_groups = (group_fails, no_group, none_read, one_pushed)

-- a number of items that is smaller than the width is a number of whole groups if it is none
pub few_items : (n w : ℕ) → 2 ^ 64 ≤ w → n < 2 ^ 64 → n % w ≡ n
few_items n w wide few = mod-eq_of_lt (omega (arith, wide, few))

pub ruleset whole_groups = (few_items)
