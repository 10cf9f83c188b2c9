-- What follows from the laws, in the words of `Gives` and `Faults`.
use Rattle.std.proofs.{Common.{Bool, ◌≡◌, ◌↔◌, ◌⊎◌, ℕ, ◌^◌, ◌<◌, true, false, List, [], ◌∷◌, ◌++◌, length, map, sym, ap, ◌∙◌, subst, arith}}
use Rattle.std.proofs.{Common.{Result, Ok, Err, IfOk, IfErr, IsOkAnd, append-nil}, lemmas.List.{length-map, map-append}}
use Rattle.std.specs.{List.All}
use Rattle.rlp_reading.specs.{declared.error.DecoderError.DecoderError, declared.error.DecoderError.TheVariants.OutOfMemory}
use Rattle.rlp_reading.specs.{Values.RoundTrip.{AlwaysReadsBack, AlwaysReadsStrictly}, Values.ValueReading.GivesValue, Views.View.{Holds, View, item_at, strict_view_of, view_of}}
use Rattle.rlp_reading.specs.Form.{Form, Faults, Gives, Reading, and_then, fault_of, list_reading, reading_at, seen_fault}
use Rattle.rlp_reading.specs.Laws.{viewed, GivesOnly, IsLawful, IsReadBack, IsSeen, ReadsBack}
use Rattle.rlp_format.specs.{Format.Encoding.{list_of, AreBytes, BeginsWith, IsSized, encoding}, Values.Value.AreAlike}
use Rattle.rlp_reading.specs.Values.RoundTrip as words
use Rattle.rlp_reading.proofs.{FieldLaws.all_first, Lemmas.WholeLists.held_at, ListLaws.{each_told, items_sized, list_back, list_type_only}}

-- ---- one reading

-- contracts see two values that one view gives alike
pub one_value : {A : Type 0} (r : Reading A) (v : View) (x y : A) → Gives r v x → Gives r v y → r.seen x ≡ r.seen y
one_value r v x y given also = grind arith

-- two errors that one view has are the same fault
pub one_fault : {A : Type 0} (r : Reading A) (v : View) (e f : DecoderError) → Faults r v e → Faults r v f → fault_of e ≡ fault_of f
one_fault r v e f bad also = let same = sym bad ∙ also in cc

-- a view that gives a value has no fault
pub not_both : {A : Type 0} (r : Reading A) (v : View) (x : A) (e : DecoderError) → Gives r v x → ¬ Faults r v e
not_both r v x e given bad = let same = sym given ∙ bad in cc

module _ {A : Type 0} (c : Form A) where
  -- ---- the law of `RoundTrip`

  pub gives_back : IsReadBack c → AlwaysReadsBack c.Fits c.item (Gives c.reading) (Faults c.reading)
  gives_back law b v fits fit begins = grind arith

  -- ---- the law of `Scalar`

  pub gives_exactly : IsReadBack c → GivesOnly false c → (b : List ℕ) (v : A) → AreBytes b → length b < 2 ^ 64
      → Gives c.reading (view_of b) v ↔ GivesValue c.Fits c.item (view_of b) v
  gives_exactly law exact b v bytes fits = grind arith

  -- bytes that begin with the encoding of a value that fits have no fault
  pub gives_soundly : IsReadBack c → (b : List ℕ) (v : A) → length b < 2 ^ 64 → GivesValue c.Fits c.item (view_of b) v → (e : DecoderError) → ¬ Faults c.reading (view_of b) e
  gives_soundly law b v fits given e = not_both c.reading (view_of b) v e (law.back.back b v fits given.fits given.begins)

  -- ---- the law of `StrictRead`

  pub gives_strictly : IsLawful c → AlwaysReadsStrictly c.Fits c.item (Gives c.reading) (Faults c.reading)
  gives_strictly law b v bytes fits = record {
    exact = (λ given. law.exact.only b v bytes fits given, λ (fit, is). (law.back true).back b v fits fit is);
    sound = λ fit is e. not_both c.reading (strict_view_of b) v e ((law.back true).back b v fits fit is);
  }

  -- contracts see two values that fit and have the same item alike, if the encoding of the item is shorter than 2^64
  pub told_by_item : IsReadBack c → (x y : A) → c.Fits x → c.Fits y → c.item x ≡ c.item y → IsSized (c.item x) → c.reading.seen x ≡ c.reading.seen y
  told_by_item law x y fit other same sized =
      let b = encoding (c.item x) in
      one_value c.reading (view_of b) x y
      (law.back.back (encoding (c.item x)) x sized fit ([], sym (append-nil (encoding (c.item x)))))
      (law.back.back (encoding (c.item x)) y sized other ([], ap encoding same ∙ sym (append-nil (encoding (c.item y)))))

  -- ---- for bodies that read a value

  pub answers_alike : IsSeen c → (v : View) (x : A) (r : Result A DecoderError) → c.Fits x → Gives c.reading v x → IfOk r (λ w. Gives c.reading v w)
      → IfOk r (λ w. c.Fits w × AreAlike c.item w x)
  answers_alike law v x r fit given also = grind arith

  pub answers_memory : (v : View) (x : A) (r : Result A DecoderError) (T : Type 0) → Gives c.reading v x → IfErr r (λ e. Faults c.reading v e ⊎ ((e ≡ OutOfMemory) × T))
      → IfErr r (λ e. (e ≡ OutOfMemory) × T)
  answers_memory v x r T given fault = grind arith

  pub answers_begin : GivesOnly false c → (b : List ℕ) (x : A) (r : Result A DecoderError) → AreBytes b → length b < 2 ^ 64
      → IfOk r (λ w. Gives c.reading (view_of b) w) → IsOkAnd r (λ w. AreAlike c.item w x) → BeginsWith b (encoding (c.item x))
  answers_begin law b x (Ok w) bytes fits given same = subst (λ i. BeginsWith b (encoding i)) same (law.only b w bytes fits given).1
  answers_begin law b x (Err e) bytes fits given same = absurd same

  pub answers_whole : GivesOnly true c → (b : List ℕ) (r : Result A DecoderError) → AreBytes b → length b < 2 ^ 64
      → IfOk r (λ w. Gives c.reading (strict_view_of b) w) → IfOk r (λ w. c.Fits w × (b ≡ encoding (c.item w)))
  answers_whole law b r bytes fits given = grind arith

  pub answers_only : (b : List ℕ) (x : A) (r : Result A DecoderError) → IfOk r (λ w. c.Fits w × (b ≡ encoding (c.item w)))
      → IsOkAnd r (λ w. AreAlike c.item w x) → b ≡ encoding (c.item x)
  answers_only b x r whole same = grind arith

-- ---- lists of values

module _ {A : Type 0} (c : Form A) {is_strict : Bool} (back : ReadsBack is_strict c) (b : List ℕ) (vs : List A) (short : length b < 2 ^ 64) (fit : All c.Fits vs)
    (holds : Holds is_strict b (encoding (list_of (map c.item vs)))) where
  -- a view that holds a list of values gives the values
  pub lists_back : Gives (list_reading (λ xs. xs) c.reading) (viewed is_strict b) vs
  lists_back = (list_back c {B = List A} (λ xs. xs) is_strict back).back b vs short fit holds

  -- and no other values: those that are read have the same items, each in the same place
  pub list_alike : {B : Type 0} (values : B → List A) (r : Result B DecoderError) → IsSeen c → IfOk r (λ w. Gives (list_reading values c.reading) (viewed is_strict b) w)
      → IfOk r (λ w. All c.Fits (values w) × (map c.item (values w) ≡ map c.item vs))
  list_alike values r told given = grind (arith, each_told, lists_back)

  -- reading the list fails only with `OutOfMemory`
  pub list_memory : {B : Type 0} (r : Result B DecoderError) (T : Type 0)
      → IfErr r (λ e. Faults (list_reading (λ xs. xs) c.reading) (viewed is_strict b) e ⊎ ((e ≡ OutOfMemory) × T)) → IfErr r (λ e. e ≡ OutOfMemory)
  list_memory r T fault = grind (arith, lists_back)

module _ {A : Type 0} (c : Form A) where
  -- item i of the encoding of a list gives the values that fit and are alike to value i, and has no fault
  pub list_item_back : IsReadBack c → (before after : List A) (x : A) (b : List ℕ) → length b < 2 ^ 64 → c.Fits x
      → BeginsWith b (encoding (list_of (map c.item (before ++ x ∷ after))))
      → words.ReadsBack c.Fits c.item (Gives (reading_at (length before) c.reading)) (Faults (reading_at (length before) c.reading)) (view_of b) x
  list_item_back law before after x b fits fit begins =
      let whole : map c.item (before ++ x ∷ after) ≡ map c.item before ++ c.item x ∷ map c.item after = map-append c.item before (x ∷ after) in
      let holds : BeginsWith b (encoding (list_of (map c.item before ++ c.item x ∷ map c.item after))) =
      subst (λ xs. BeginsWith b (encoding (list_of xs))) whole begins in
      let there : item_at (view_of b) (length before) ≡ Ok (view_of (encoding (c.item x))) =
      subst (λ n. item_at (view_of b) n ≡ Ok (view_of (encoding (c.item x)))) (length-map before c.item)
      (held_at (view_of b) (map c.item before) (map c.item after) (c.item x) fits holds) in
      let same = ap (λ r. and_then (seen_fault r) (λ v. (c.reading.read v).result)) there in
      let sized = (all_first IsSized (map c.item before) (c.item x ∷ map c.item after)
      (items_sized false b (map c.item before ++ c.item x ∷ map c.item after) fits holds)).1.0 in
      let h = gives_back c law (encoding (c.item x)) x sized fit ([], sym (append-nil (encoding (c.item x)))) in
      record {
        alike = λ w. (λ given. (h.alike w).0 (sym same ∙ given), λ like. same ∙ (h.alike w).1 like);
        no_fault = λ e bad. h.no_fault e (sym same ∙ bad);
      }

  pub strict_list_whole : {B : Type 0} (values : B → List A) → IsLawful c → (b : List ℕ) (r : Result B DecoderError) → AreBytes b → length b < 2 ^ 64
      → IfOk r (λ w. Gives (list_reading values c.reading) (strict_view_of b) w)
      → IfOk r (λ w. All c.Fits (values w) × (b ≡ encoding (list_of (map c.item (values w)))))
  strict_list_whole values law b (Ok w) bytes fits given = (list_type_only c values law.exact).only b w bytes fits given
  strict_list_whole values law b (Err e) bytes fits given = tt

  pub strict_list_only : {B : Type 0} (values : B → List A) (b : List ℕ) (vs : List A) (r : Result B DecoderError)
      → IfOk r (λ w. All c.Fits (values w) × (b ≡ encoding (list_of (map c.item (values w)))))
      → IsOkAnd r (λ w. map c.item (values w) ≡ map c.item vs) → b ≡ encoding (list_of (map c.item vs))
  strict_list_only values b vs r whole same = grind arith
