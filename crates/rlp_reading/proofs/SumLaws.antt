-- Values of several types are read back, and strictly from nothing else.
use Rattle.std.proofs.Common.{◌≡◌, ℕ, ◌^◌, ◌<◌, ◌⊎◌, inl, inr, ◌==◌, Bool, true, false, List, [], ◌∷◌, length, refl, sym, ap, ◌∙◌, subst}
use Rattle.std.proofs.{Common.{arith, Result, Ok, eq-eqb}, lemmas.Bool.{cond-true, cond-false}, lemmas.Bool.eqb-true, lemmas.List.Elements.{All-from_recursion, recursion_from_All}}
use Rattle.rlp_reading.specs.{Format.Framing.{begins_as_list}, Views.View.{View, Holds, strict_view_of}, Values.Sums.{OnSum, sum_item}}
use Rattle.rlp_reading.specs.Form.{Answer, Form, Fault, and_then, items_of, map_value, number}
use Rattle.rlp_reading.specs.Sums.{CasesForm, Unless, and_case, envelope, envelope_of, enveloped, last_case, list_or_string, read_either, read_first, read_last, read_tagged, seen_envelope, sum_map, tagged_list}
use Rattle.rlp_reading.specs.Laws.{CasesAreLawful, ReadsBack, GivesOnly, IsLawful, IsStrictPart, viewed, views_of}
use Rattle.rlp_format.specs.{Format.Encoding.{Item, is_list, AreBytes, encoding}, Values.Value.{FitsBytes, number_item}}
use Rattle.rlp_reading.proofs.ListLaws.{goes_on, held_itself, item_back, item_only, items_held, items_only, items_sized, same_written}
use Rattle.rlp_reading.proofs.{StringLaws.{ReadsStrings, number_lawful, string_lawful}, Lemmas.Views.front_kind, Lemmas.StringsHeld.held_begins, ListLaws.held_sized}
use Rattle.std.specs.List.{AllByRecursion}

-- ---- lists and strings

held_kind : (is_strict : Bool) (b : List ℕ) (x : Item) → length b < 2 ^ 64 → Holds is_strict b (encoding x) → begins_as_list b ≡ is_list x
held_kind is_strict b x fits holds = front_kind x b (held_sized is_strict b x fits holds) (held_begins (viewed is_strict b) x holds)

-- answers that are equal have equal results
whole : {M : Type 0} {a b : Answer M Fault} → a ≡ b → a.result ≡ b.result
whole {M} same = ap (λ (a : Answer M Fault). a.result) same

-- ---- a value that was put on one side

left_taken : {M N : Type 0} (r : Result M Fault) (y : M) → map_value {B = M ⊎ N} inl r ≡ Ok (inl y) → r ≡ Ok y
left_taken r y is = grind arith

right_taken : {M N : Type 0} (r : Result N Fault) (y : N) → map_value {B = M ⊎ N} inr r ≡ Ok (inr y) → r ≡ Ok y
right_taken r y is = grind arith

not_left : {M N : Type 0} (r : Result M Fault) (y : N) → map_value {B = M ⊎ N} inl r ≡ Ok (inr y) → ⊥
not_left r y is = grind arith

not_right : {M N : Type 0} (r : Result N Fault) (y : M) → map_value {B = M ⊎ N} inr r ≡ Ok (inl y) → ⊥
not_right r y is = grind arith

module _ {A B M N : Type 0} (seen : A → M) (other : B → N) where
  -- if contracts see two values of a sum alike and one of the two fits, both fit
  pub sums_fit : (Fits : A → Type 0) (Also : B → Type 0) → ((x y : A) → seen x ≡ seen y → Fits x → Fits y) → ((x y : B) → other x ≡ other y → Also x → Also y)
      → (s t : A ⊎ B) → sum_map seen other s ≡ sum_map seen other t → OnSum Fits Also s → OnSum Fits Also t
  sums_fit Fits Also left right s t same fit = grind arith

  -- a sum is written as contracts see it if the values of both types are
  pub sums_written : (item : A → Item) (also : B → Item) (of : M → Item) (by : N → Item) → ((x : A) → of (seen x) ≡ item x) → ((y : B) → by (other y) ≡ also y)
      → (s : A ⊎ B) → sum_item of by (sum_map seen other s) ≡ sum_item item also s
  sums_written item also of by left right s = grind arith

module _ {A B : Type 0} (c : Form A) (d : Form B) (lists : (x : A) → is_list (c.item x) ≡ true) (strings : (y : B) → is_list (d.item y) ≡ false) where
  either_back_by : (is_strict : Bool) → ReadsBack is_strict c → ReadsBack is_strict d → (b : List ℕ) (s : A ⊎ B) → length b < 2 ^ 64 → OnSum c.Fits d.Fits s
      → Holds is_strict b (encoding (sum_item c.item d.item s))
      → (read_either c.reading.read d.reading.read (viewed is_strict b)).result ≡ Ok (sum_map c.reading.seen d.reading.seen s)
  either_back_by is_strict law other b s fits fit holds = grind (arith, held_kind)

  pub either_lawful : IsLawful c → IsLawful d → IsLawful (list_or_string c d)
  either_lawful law other = grind (arith, either_back_by)

-- ---- tags

module _ {A : Type 0} (unknown : List ℕ) (tag : ℕ) (c : Form A) where
  last_only_by : GivesOnly true c → (k : ℕ) (b : List ℕ) (x : A) (same : Bool) → AreBytes b → length b < 2 ^ 64 → (k == tag) ≡ same
      → (read_last unknown tag c.reading.read k (strict_view_of b)).result ≡ Ok (c.reading.seen x) → c.Fits x × (k ≡ tag) × (b ≡ encoding (c.item x))
  last_only_by law k b x equal bytes fits same is = grind arith

  pub last_case_lawful : IsLawful c → CasesAreLawful (last_case unknown tag c)
  last_case_lawful law = record {
    fits = law.told.fits;
    tagged = λ x. refl;
    written = law.told.written;
    back = λ is_strict b x fits fit is. whole (cond-true (tag == tag) _ _ (eq-eqb tag tag refl)) ∙ (law.back is_strict).back b x fits fit is;
    only = λ k b x bytes fits is. last_only_by law.exact k b x (k == tag) bytes fits refl is;
  }

module _ {A B : Type 0} (tag : ℕ) (c : Form A) (more : CasesForm B) where
  first_back : IsLawful c → CasesAreLawful more → (is_strict : Bool) (b : List ℕ) (s : A ⊎ B) → length b < 2 ^ 64 → (and_case tag c more).Fits s
      → Holds is_strict b (encoding ((and_case tag c more).item s))
      → (read_first tag c.reading.read more.read ((and_case tag c more).tag s) (viewed is_strict b)).result ≡ Ok (sum_map c.reading.seen more.seen s)
  first_back law others is_strict b (inl x) fits fit is =
      whole (cond-true (tag == tag) _ _ (eq-eqb tag tag refl)) ∙ ap (map_value inl) ((law.back is_strict).back b x fits fit is)
  first_back law others is_strict b (inr y) fits fit is = other_back (more.tag y == tag) refl fit
    where
      other_back : (same : Bool) → (more.tag y == tag) ≡ same → Unless same (more.Fits y)
          → (read_first tag c.reading.read more.read (more.tag y) (viewed is_strict b)).result ≡ Ok (inr (more.seen y))
      other_back true same fit = absurd fit
      other_back false same fit = whole (cond-false (more.tag y == tag) _ _ same) ∙ ap (map_value inr) (others.back is_strict b y fits fit is)

  first_only : IsLawful c → CasesAreLawful more → (k : ℕ) (b : List ℕ) (s : A ⊎ B) (same : Bool) → AreBytes b → length b < 2 ^ 64 → (k == tag) ≡ same
      → (read_first tag c.reading.read more.read k (strict_view_of b)).result ≡ Ok (sum_map c.reading.seen more.seen s)
      → (and_case tag c more).Fits s × (k ≡ (and_case tag c more).tag s) × (b ≡ encoding ((and_case tag c more).item s))
  first_only law others k b (inl x) true bytes fits same is =
      let h = law.exact.only b x bytes fits (left_taken (c.reading.read (strict_view_of b)).result (c.reading.seen x) (sym (whole (cond-true (k == tag) _ _ same)) ∙ is)) in
      (h.0, eqb-true k tag same, h.1)
  first_only law others k b (inl x) false bytes fits same is = grind (arith, not_right, whole, cond-false)
  first_only law others k b (inr y) true bytes fits same is = grind (arith, not_left, whole, cond-true)
  first_only law others k b (inr y) false bytes fits same is =
      let h = others.only k b y bytes fits (right_taken (more.read k (strict_view_of b)).result (more.seen y) (sym (whole (cond-false (k == tag) _ _ same)) ∙ is)) in
      let other : (more.tag y == tag) ≡ false = ap (λ n. n == tag) (sym h.1) ∙ same in
      (subst (λ b. Unless b (more.Fits y)) (sym other) h.0, h.1, h.2)

  other_fits : CasesAreLawful more → (x y : B) → more.seen x ≡ more.seen y → Unless (more.tag x == tag) (more.Fits x) → Unless (more.tag y == tag) (more.Fits y)
  other_fits others x y same fit = grind arith

  first_tagged : CasesAreLawful more → (s : A ⊎ B) → (and_case tag c more).seen_tag (sum_map c.reading.seen more.seen s) ≡ (and_case tag c more).tag s
  first_tagged others s = grind arith

  pub and_case_lawful : IsLawful c → CasesAreLawful more → CasesAreLawful (and_case tag c more)
  and_case_lawful law others = record {
    fits = sums_fit c.reading.seen more.seen c.Fits (λ y. Unless (more.tag y == tag) (more.Fits y)) law.told.fits (other_fits others);
    tagged = first_tagged others;
    written = sums_written c.reading.seen more.seen c.item more.item c.reading.item more.seen_item law.told.written others.written;
    back = first_back law others;
    only = λ k b s bytes fits is. first_only law others k b s (k == tag) bytes fits refl is;
  }

-- ---- envelopes

module _ {A : Type 0} (cases : CasesForm A) (law : CasesAreLawful cases) where
  envelope_only : (d : List ℕ) (x : A) → AreBytes d → length d < 2 ^ 64 → (envelope_of cases.read d).result ≡ Ok (cases.seen x) → cases.Fits x × (d ≡ envelope cases x)
  envelope_only [] x bytes fits is = absurd (let no : ⊥ = cc in no)
  envelope_only (tag ∷ payload) x bytes fits is =
      let held = All-from_recursion (λ byte. byte < 2 ^ 8) payload (recursion_from_All (λ byte. byte < 2 ^ 8) (tag ∷ payload) bytes).1 in
      let h = law.only tag payload x held (omega arith) is in
      (h.0, ap (λ k. k ∷ payload) h.1 ∙ ap (λ p. cases.tag x ∷ p) h.2)

  -- the result of an envelope
  abbrev opened : List ℕ → Result cases.M Fault
  opened d = (envelope_of cases.read d).result

  pub envelope_strings : ReadsStrings cases.Fits (envelope cases) cases.seen (seen_envelope cases) opened
  envelope_strings = grind (arith, envelope_only)

  pub enveloped_lawful : IsLawful (enveloped cases)
  enveloped_lawful =
      let law = string_lawful cases.Fits (envelope cases) cases.seen (seen_envelope cases) opened cases.takes_memory envelope_strings in
      record {
        told = record { fits = law.told.fits; written = law.told.written };
        back = λ is_strict. record { back = (law.back is_strict).back };
        exact = record { only = law.exact.only };
      }

-- ---- lists of a tag and a payload

module _ {A : Type 0} (width : ℕ) (cases : CasesForm A) (law : CasesAreLawful cases) where
  abbrev read_pair : List View → Result cases.M Fault
  read_pair vs = (read_tagged width cases.read vs).result

  tagged_only_by : (vs : List View) (x : A) → AllByRecursion IsStrictPart vs → (read_tagged width cases.read vs).result ≡ Ok (cases.seen x)
      → (FitsBytes width (cases.tag x) × cases.Fits x) × (vs ≡ views_of true (number_item (cases.tag x) ∷ cases.item x ∷ []))
  tagged_only_by (v ∷ w ∷ []) x (one, (two, parts)) is =
      let g = goes_on ((number width).reading.read v).result (λ tag. (cases.read tag w).result) (cases.seen x) is in
      let h = item_only (number width) (number_lawful width).exact v g.value one g.is in
      let hs = law.only g.value w.bytes x two.held two.short (ap (λ w. (cases.read g.value w).result) (sym two.is) ∙ g.then) in
      grind (arith, goes_on, item_only, number_lawful)
  tagged_only_by vs x parts is = absurd (let no : ⊥ = cc in no)

  pub tagged_lawful : IsLawful (tagged_list width cases)
  tagged_lawful = record {
    told = grind (arith, same_written);
    back = λ is_strict. record {
      back = λ b x fits fit holds.
          let sized = items_sized is_strict b (number_item (cases.tag x) ∷ cases.item x ∷ []) fits holds in
          ap (λ r. and_then r read_pair) (items_held is_strict b (number_item (cases.tag x) ∷ cases.item x ∷ []) fits holds)
          ∙ ap (λ r. and_then r (λ tag. (cases.read tag (viewed is_strict (encoding (cases.item x)))).result))
          (item_back (number width) is_strict ((number_lawful width).back is_strict) (cases.tag x) sized.0 fit.0)
          ∙ law.back is_strict (encoding (cases.item x)) x sized.1.0 fit.1 (held_itself is_strict (encoding (cases.item x)));
    };
    exact = record {
      only = λ b x bytes fits is.
          let g = goes_on (items_of (strict_view_of b)) read_pair (cases.seen x) is in
          let are = items_only b g.value bytes fits g.is in
          let h = tagged_only_by g.value x are.parts g.then in
          (h.0, are.whole (number_item (cases.tag x) ∷ cases.item x ∷ []) h.1);
    };
  }
