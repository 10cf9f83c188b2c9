-- FieldsForm are read back, and strictly from nothing else.
use Rattle.std.proofs.{Common.{Bool, IfOk, IfSome, List, None, Ok, Option, Result, Some, [], ap, append_assoc, arith, false, leb}, Common.get_or, lemmas.List.map-append}
use Rattle.std.proofs.Common.{length, length-append, option_map, refl, subst, suc, sym, true, zero, ℕ, ◌&&◌, ◌+◌, ◌++◌, ◌-◌, ◌==◌, ◌||◌, ◌∙◌, ◌∷◌, ◌≡◌, map}
use Rattle.std.specs.List.{AllByRecursion}
use Rattle.rlp_format.specs.{Format.Encoding.{IsSized, encoding, Item}, Values.Value.items_if}
use Rattle.rlp_reading.specs.{Views.View.{View}, Form.{Answer, Form, Fault, FieldsForm, FieldsReading, Reading, Taken, and_then, each, end, field, group, group_before}}
use Rattle.rlp_reading.specs.{Form.{map_value, no_fields, one, one_field, optional, optional_fields, optional_group, part_fields, take_both}, Laws.{viewed, views_of}}
use Rattle.rlp_reading.specs.{Form.{take_if, take_item}, Laws.{AreLawful, AreSeen, IsLawful, IsSeen, IsStrictPart, ReadsBack, TakePossible, TakeWidth, TakesBack, TakesOnly}}
use Rattle.rlp_reading.proofs.ListLaws.{is_mapped, item_back, item_only}
use Rattle.std.proofs.{Math.Seq.{get_or-append_seam}, lemmas.Grind.{common_steps}, lemmas.Bool.Decides.{nat_tests}}

-- ---- what was taken

-- two parts were taken, one after the other
pub record AreTaken {M N : Type 0} (read : List View → Taken M) (more : List View → Taken N) (vs : List View) (z : M × N) (rest : List View) : Type 0 where
  pub left : List View
  pub first : (read vs).result ≡ Ok (z.0, left)
  pub second : (more left).result ≡ Ok (z.1, rest)

pub both_taken : {M N : Type 0} (read : List View → Taken M) (more : List View → Taken N) (vs : List View) (z : M × N) (rest : List View)
    → (take_both read more vs).result ≡ Ok (z, rest) → AreTaken read more vs z rest
both_taken {M} {N} read more vs z rest is = grind arith

-- one item was taken
pub record IsTaken {M : Type 0} (read : View → Answer M Fault) (vs : List View) (x : M) (rest : List View) : Type 0 where
  pub item : View
  pub all : vs ≡ item ∷ rest
  pub is : (read item).result ≡ Ok x

pub item_taken : {M : Type 0} (read : View → Answer M Fault) (vs : List View) (x : M) (rest : List View) → (take_item read vs).result ≡ Ok (x, rest)
    → IsTaken read vs x rest
item_taken read vs x rest is = grind arith

-- ---- fields that are always the same number of items

pub end_wide : {P : Type 0} → TakeWidth (no_fields {P = P})
end_wide = record { taken = λ vs. omega arith }

pub one_wide : {A : Type 0} (r : Reading A) → TakeWidth (one_field r)
one_wide r = grind arith

-- what is left after fields, with f applied to the fields
pub still_left : {A B : Type 0} (f : A → B) (Q R : List View → Type 0) (r : Result (A × List View) (List View × Fault)) → ((left : List View) → Q left → R left)
    → IfOk r (λ t. Q t.1) → IfOk (map_value {B = B × List View} (λ t. (f t.0, t.1)) r) (λ t. R t.1)
still_left f Q R r more is = grind arith

-- what is left after fields and other fields
pub both_left : {A B C : Type 0} (f : A → B → C) (First : List View → Type 0) (Next : List View → List View → Type 0) (R : List View → Type 0)
    (r : Result (A × List View) (List View × Fault)) (more : List View → Taken B) → ((left rest : List View) → First left → Next left rest → R rest)
    → IfOk r (λ t. First t.1) → ((left : List View) → IfOk (more left).result (λ t. Next left t.1))
    → IfOk (and_then {B = C × List View} r (λ t. map_value (λ u. (f t.0 u.0, u.1)) (more t.1).result)) (λ t. R t.1)
both_left f First Next R r more step first second = grind arith

pub group_wide : {A P : Type 0} (value : P → A) (r : FieldsReading A) (more : FieldsReading P) → TakeWidth r → TakeWidth more → TakeWidth (group_before value r more)
group_wide value r more law others = grind arith

pub part_wide : {P Q : Type 0} (part : P → Q) (r : FieldsReading Q) → TakeWidth r → TakeWidth (part_fields part r)
part_wide part r law = record { taken = law.taken }

-- ---- fields that are all of the items

pub end_possible : {P : Type 0} → TakePossible (no_fields {P = P})
end_possible = record { all = λ vs none. ap (λ ws. length ws == 0) none }

pub one_possible : {A : Type 0} (r : Reading A) → TakePossible (one_field r)
one_possible r = grind arith

-- m items that are possible come after w items
after_width : (accepts : ℕ → Bool) (w n m : ℕ) → n ≡ w + m → accepts m ≡ true → (leb w n && accepts (n - w)) ≡ true
after_width accepts w n m many right = grind arith

pub group_possible : {A P : Type 0} (value : P → A) (r : FieldsReading A) (more : FieldsReading P) → TakeWidth r → TakePossible more → TakePossible (group_before value r more)
group_possible value r more law others = grind arith

pub part_possible : {P Q : Type 0} (part : P → Q) (r : FieldsReading Q) → TakePossible r → TakePossible (part_fields part r)
part_possible part r law = record { all = law.all }

or_right : (b c : Bool) → c ≡ true → (b || c) ≡ true
or_right b c is = grind arith

pub optional_possible : {A P : Type 0} (value : P → Option A) (r : FieldsReading A) → TakePossible r → TakePossible (optional_fields value r)
optional_possible {A} value r law = grind arith

-- ---- no more fields

pub end_back : {P : Type 0} (is_strict : Bool) → TakesBack is_strict (end {P = P})
end_back is_strict = record { counted = λ p fit. refl; wide = λ p fixed. refl; back = λ p rest last fit sized. refl }

pub ok_same : {A E : Type 0} (x y : A) → (let r : Result A E = Ok x in r) ≡ Ok y → x ≡ y
ok_same x y is = cc

pub end_told : {P : Type 0} → AreSeen (end {P = P})
end_told = record { fits = λ p q same fit. tt; written = λ p. refl }

pub end_lawful : {P : Type 0} → AreLawful (end {P = P})
end_lawful = grind arith

pub views_append : (is_strict : Bool) (xs ys : List Item) → views_of is_strict (xs ++ ys) ≡ views_of is_strict xs ++ views_of is_strict ys
views_append is_strict xs ys = map-append (λ x. viewed is_strict (encoding x)) xs ys

pub all_first : {A : Type 0} (P : A → Type 0) (xs ys : List A) → AllByRecursion P (xs ++ ys) → AllByRecursion P xs × AllByRecursion P ys
all_first P [] ys all = (tt, all)
all_first P (x ∷ xs) ys (one, all) = let both = all_first P xs ys all in ((one, both.0), both.1)

-- ---- one field

module _ {A : Type 0} (c : Form A) where
  pub one_back : (is_strict : Bool) → ReadsBack is_strict c → TakesBack is_strict (one c)
  one_back is_strict law = grind (arith, item_back)

  pub one_lawful : IsLawful c → AreLawful (one c)
  one_lawful law = grind (arith, one_wide, one_possible, one_back, item_taken, item_only)

-- ---- fields of a part, before others

module _ {A P : Type 0} (value : P → A) (f : FieldsForm A) (more : FieldsForm P) (fixed : f.reading.is_fixed ≡ true) where
  abbrev beside : f.reading.M → Result (more.reading.M × List View) (List View × Fault) → Result ((f.reading.M × more.reading.M) × List View) (List View × Fault)
  beside x r = map_value (λ t. ((x, t.0), t.1)) r

  pub group_back : (is_strict : Bool) → TakesBack is_strict f → TakesBack is_strict more → TakesBack is_strict (group value f more)
  group_back is_strict law others = record {
    counted = λ p fit.
        let xs = f.items (value p) in
        let ys = more.items p in
        after_width more.reading.accepts f.reading.width (length (xs ++ ys)) (length ys) (omega (arith, length-append (f.items (value p)) (more.items p), law.wide (value p) fixed))
        (others.counted p fit.1);
    wide = λ p last. omega (arith, length-append (f.items (value p)) (more.items p), law.wide (value p) fixed, others.wide p last);
    back = λ p rest last fit sized.
        let both = all_first IsSized (f.items (value p)) (more.items p) sized in
        let mine = views_of is_strict (f.items (value p)) in
        let next = views_of is_strict (more.items p) in
        let whole : views_of is_strict (f.items (value p) ++ more.items p) ++ rest
        ≡ views_of is_strict (f.items (value p)) ++ (views_of is_strict (more.items p) ++ rest) =
        ap (λ vs. vs ++ rest) (views_append is_strict (f.items (value p)) (more.items p)) ∙ append_assoc mine next rest in
        ap (λ vs. (take_both f.reading.read more.reading.read vs).result) whole
        ∙ ap (λ r. and_then {A = f.reading.M × List View} r (λ t. beside t.0 (more.reading.read t.1).result))
        (law.back (value p) (views_of is_strict (more.items p) ++ rest) (λ other. absurd (let no : ⊥ = cc in no)) fit.0 both.0)
        ∙ ap (beside (f.reading.seen (value p))) (others.back p rest last fit.1 both.1);
  }

  pub group_only : TakesOnly f → TakesOnly more → TakesOnly (group value f more)
  group_only law others = record {
    only = λ p vs rest parts is.
        let b = both_taken f.reading.read more.reading.read vs (f.reading.seen (value p), more.reading.seen p) rest is in
        let h = law.only (value p) vs b.left parts b.first in
        let both = all_first IsStrictPart (views_of true (f.items (value p))) b.left (subst (AllByRecursion IsStrictPart) h.1 parts) in
        let hs = others.only p b.left rest both.1 b.second in (
          (h.0, hs.0),
          h.1 ∙ ap (λ ws. views_of true (f.items (value p)) ++ ws) hs.1
              ∙ sym (append_assoc (views_of true (f.items (value p))) (views_of true (more.items p)) rest)
              ∙ ap (λ ws. ws ++ rest) (sym (views_append true (f.items (value p)) (more.items p))),
        );
  }

  -- that the fields of the part are always the same number of items is proved by `refl`
  pub group_lawful : AreLawful f → AreLawful more → AreLawful (group value f more)
  group_lawful law others = grind (arith, group_back, group_only)

-- ---- a field before others

module _ {A P : Type 0} (value : P → A) (c : Form A) (more : FieldsForm P) where
  pub field_told : IsSeen c → AreSeen more → AreSeen (field value c more)
  field_told law others = grind arith

  pub field_back : (is_strict : Bool) → ReadsBack is_strict c → TakesBack is_strict more → TakesBack is_strict (field value c more)
  field_back is_strict law others = group_back value (one c) more refl is_strict (one_back c is_strict law) others

  pub field_lawful : IsLawful c → AreLawful more → AreLawful (field value c more)
  field_lawful law others = group_lawful value (one c) more refl (one_lawful c law) others

-- ---- fields of one type

pub each_lawful : {A P : Type 0} (value : ℕ → P → A) (c : Form A) (more : FieldsForm P) → IsLawful c → AreLawful more → (k n : ℕ) → AreLawful (each value c more k n)
each_lawful value c more law others k zero = others
each_lawful value c more law others k (suc n) =
    field_lawful (value k) c (each value c more (suc k) n) law (each_lawful value c more law others (suc k) n)

-- ---- last fields that may be missing together

module _ {A P : Type 0} (value : P → Option A) (f : FieldsForm A) where
  pub optional_group_back : (is_strict : Bool) → f.reading.accepts 0 ≡ false → TakesBack is_strict f → TakesBack is_strict (optional_group value f)
  optional_group_back is_strict some law = grind (arith, nat_tests, common_steps, or_right)

  if_only : TakesOnly f → (o : Option A) (vs rest : List View) → AllByRecursion IsStrictPart vs
      → (take_if f.reading.read vs).result ≡ Ok (option_map f.reading.seen o, rest) → IfSome o f.Fits × (vs ≡ views_of true (items_if f.items o) ++ rest)
  if_only law None [] rest parts is = (tt, ap (λ t. t.1) (ok_same _ _ is))
  if_only law (Some x) [] rest parts is = absurd (let no : ⊥ = let same = ap (λ t. t.0) (ok_same _ _ is) in cc in no)
  if_only law None (v ∷ vs) rest parts is = grind (arith, is_mapped)
  if_only law (Some x) (v ∷ vs) rest parts is =
      let m = is_mapped (f.reading.read (v ∷ vs)).result (λ (t : f.reading.M × List View). (Some t.0, t.1)) (Some (f.reading.seen x), rest) is in
      let head : m.value.0 ≡ f.reading.seen x = let same = ap (λ t. t.0) m.then in cc in
      let tail : m.value.1 ≡ rest = ap (λ t. t.1) m.then in
      law.only x (v ∷ vs) rest parts (m.is ∙ ap (λ y. Ok (y, m.value.1)) head ∙ ap (λ ws. Ok (f.reading.seen x, ws)) tail)

  pub optional_group_told : AreSeen f → AreSeen (optional_group value f)
  optional_group_told law = grind arith

  -- that one of the fields is always present is proved by `refl`
  pub optional_group_lawful : f.reading.accepts 0 ≡ false → AreLawful f → AreLawful (optional_group value f)
  optional_group_lawful some law = record {
    told = optional_group_told law.told;
    wide = λ last. absurd (let no : ⊥ = cc in no);
    possible = optional_possible value f.reading law.possible;
    back = λ is_strict. optional_group_back is_strict some (law.back is_strict);
    exact = record { only = λ p vs rest parts is. if_only law.exact (value p) vs rest parts is };
  }

-- ---- a last field that may be missing

module _ {A P : Type 0} (value : P → Option A) (c : Form A) where
  pub optional_lawful : IsLawful c → AreLawful (optional value c)
  optional_lawful law = optional_group_lawful value (one c) refl (one_lawful c law)

-- ---- fields of one type, one by one as `each` has them, and together as the values of an array

module _ {A P : Type 0} (d : A) (values : P → List A) (c : Form A) (more : FieldsForm P) (p : P) where
  -- a number of fields, from place k on
  abbrev fields_from : ℕ → ℕ → FieldsForm P
  fields_from k n = each (λ j p. get_or (values p) j d) c more k n

  there : (before after : List A) (x : A) (k : ℕ) → values p ≡ before ++ x ∷ after → length before ≡ k → get_or (values p) k d ≡ x
  there before after x k whole at = ap (λ xs. get_or xs k d) whole ∙ ap (λ j. get_or (before ++ x ∷ after) j d) (sym at) ∙ get_or-append_seam before x after d

  one_further : (before after : List A) (x : A) → values p ≡ before ++ x ∷ after → values p ≡ (before ++ x ∷ []) ++ after
  one_further before after x whole = whole ∙ sym (append_assoc before (x ∷ []) after)

  items_from : (k n : ℕ) (before after : List A) → values p ≡ before ++ after → length before ≡ k → length after ≡ n
      → map c.item after ++ more.items p ≡ (fields_from k n).items p
  items_from k zero before [] whole at many = refl
  items_from k (suc n) before (x ∷ after) whole at many =
      ap (λ zs. c.item x ∷ zs) (items_from (suc k) n (before ++ x ∷ []) after (one_further before after x whole)
      (omega (arith, length-append before (x ∷ []))) (omega arith))
      ∙ ap (λ y. c.item y ∷ (fields_from (suc k) n).items p) (sym (there before after x k whole at))
  items_from k n before after whole at many = absurd (omega arith)

  -- fields of one type, for the same number of values, are written as the items of the values
  pub each_items : (n : ℕ) → length (values p) ≡ n → map c.item (values p) ++ more.items p ≡ (fields_from 0 n).items p
  each_items n many = items_from 0 n [] (values p) refl refl many
