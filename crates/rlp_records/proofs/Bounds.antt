-- What the walk over bytes, and the count of what is in their envelopes, say of the items in them.
use Rattle.std.{specs.Prelude.{codes}, proofs.Common.{◌≡◌, ℕ, ◌+◌, ◌-◌, ◌^◌, ◌<◌, ◌≤◌, ◌⊎◌, inl, inr, true, false, None, Option, Some, List, length, refl, sym, ap, subst, ◌∙◌}}
use Rattle.std.proofs.{Common.{arith, Result, Ok, Err, IfOk, IfErr}, lemmas.Bool.{cond-false, cond-true}, lemmas.Bool.Decides.nat_tests, lemmas.Slice.Eq.{bytes_eq-Decides}}
use Rattle.rlp.specs.{DecoderError.DecoderError, DecoderError.TheVariants.OutOfMemory, Format.Encoding.{Item, encoding}}
use Rattle.rlp.specs.{Format.Framing.IsCanonicalWithin, Format.TreeFaults.tree_fault, Values.RawItem.raw_item_of, Views.View.{View, strict_view_of}}
use Rattle.rlp_reading.proofs.{Lemmas.Items.{encoding_same}, RawLaws.{raw_item_of-encoding, shallow_within}}
use Rattle.rlp_reading.specs.{Format.Walk.IsWalked, declared.flat.FlatItem.FlatItem, declared.flat.TreeFault.TreeFault}
use Rattle.rlp_reading.specs.{declared.flat.TreeFault.TheVariants.{Decoding, TooDeep}, Form.{Answer, Fault, Form, custom, fault_of}, Laws.IsLawful}
use Rattle.rlp_records.specs.Bounded.{IsBounded, IsWithinBounds, bound_fault, count_fault, depth_fault, enveloped_items, is_encoding, items_counted, items_in, read_bounded, unless_fault}

-- bytes are the encoding of one item
pub one_item : (b : List ℕ) → length b < 2 ^ 64 → (x y : Item) → b ≡ encoding x → b ≡ encoding y → x ≡ y
one_item b short x y is also =
    encoding_same x y (subst (λ d. length d < 2 ^ 64) is short) (subst (λ d. length d < 2 ^ 64) also short) (sym is ∙ also)

-- bytes that aren't the encoding of an item within the depth aren't one within the bounds
pub none_within : (most : ℕ) (envelopes : Option ℕ) (b : List ℕ) → ¬ IsCanonicalWithin 256 b → ¬ IsWithinBounds most envelopes b
none_within most envelopes b none within = none (within.x, within.is, within.bounded.1)

-- each value that is read of bytes within the bounds is within them
pub read_within : {A E : Type 0} (item : A → Item) (fits : A → Type 0) (most : ℕ) (envelopes : Option ℕ) (b : List ℕ) (r : Result A E) → length b < 2 ^ 64
    → IsWithinBounds most envelopes b → IfOk r (λ w. fits w × (b ≡ encoding (item w))) → IfOk r (λ w. IsBounded most envelopes (item w))
read_within item fits most envelopes b (Ok w) short within read = subst (IsBounded most envelopes) (one_item b short within.x (item w) within.is read.1) within.bounded
read_within item fits most envelopes b (Err e) short within read = tt

-- ---- why bytes are refused

-- bytes that are the encoding of an item within the depth are told to be one
pub told_encoding : (b : List ℕ) → length b < 2 ^ 64 → IsCanonicalWithin 256 b → is_encoding b ≡ true
told_encoding b short (x, is, deep) =
    (bytes_eq-Decides (encoding (raw_item_of b)) b).1 (ap encoding (raw_item_of-encoding b x short is deep) ∙ sym is)

-- and other bytes are told not to be one
pub told_no_encoding : (b : List ℕ) → ¬ IsCanonicalWithin 256 b → is_encoding b ≡ false
told_no_encoding b none =
    let whole : ¬ (encoding (raw_item_of b) ≡ b) = λ is. none (raw_item_of b, sym is, shallow_within 256 b) in grind (arith, bytes_eq-Decides)

-- bytes that aren't the encoding of an item within the depth have this fault as a tree
walked_fault : (most : ℕ) (envelopes : Option ℕ) (b : List ℕ) (t : TreeFault) → ¬ IsCanonicalWithin 256 b → tree_fault 256 b ≡ Some t → bound_fault most envelopes b ≡ depth_fault (Some t)
walked_fault most envelopes b t none is = cond-false (is_encoding b) _ _ (told_no_encoding b none) ∙ ap depth_fault is

pub too_deep : (most : ℕ) (envelopes : Option ℕ) (b : List ℕ) → ¬ IsCanonicalWithin 256 b → tree_fault 256 b ≡ Some TooDeep → bound_fault most envelopes b ≡ Some (custom (codes "nested too deep"))
too_deep most envelopes b none is = walked_fault most envelopes b TooDeep none is

pub no_item : (most : ℕ) (envelopes : Option ℕ) (b : List ℕ) (e : DecoderError) → ¬ IsCanonicalWithin 256 b → tree_fault 256 b ≡ Some (Decoding e) → bound_fault most envelopes b ≡ Some (fault_of e)
no_item most envelopes b e none is = walked_fault most envelopes b (Decoding e) none is

module _ (most n : ℕ) (envelopes : Option ℕ) (b : List ℕ) (old new : List FlatItem) (walked : IsWalked (λ item. item) b 0 0 256 old 0 new n) (short : length b < 2 ^ 64) where
  -- the fault is by the number of items
  by_count : bound_fault most envelopes b ≡ count_fault most envelopes walked.x
  by_count =
      cond-true (is_encoding b) _ _ (told_encoding b short (walked.x, walked.is, walked.deep))
      ∙ ap (count_fault most envelopes) (raw_item_of-encoding b walked.x short walked.is walked.deep)

  many : most < items_counted envelopes walked.x → bound_fault most envelopes b ≡ Some (custom (codes "too many items"))
  many more = by_count ∙ grind (arith, nat_tests)

  few : items_counted envelopes walked.x ≤ most → bound_fault most envelopes b ≡ None
  few less = by_count ∙ grind (arith, nat_tests)

  -- an item within the bounds is this one
  small_within : IsWithinBounds most envelopes b → items_counted envelopes walked.x ≤ most
  small_within within =
      subst (λ x. items_counted envelopes x ≤ most) (one_item b short within.x walked.x within.is walked.is) within.bounded.0

  -- more rows were counted than an item may have
  pub more_items : most < n → bound_fault most envelopes b ≡ Some (custom (codes "too many items"))
  more_items more = many (let total = walked.total in omega (arith, total, more))

  pub not_more : most < n → ¬ IsWithinBounds most envelopes b
  not_more more within = let total = walked.total in omega (arith, total, more, small_within within)

  module _ (k : ℕ) (inside : (x : Item) → b ≡ encoding x → k ≡ enveloped_items envelopes x) where
    few_counted : n ≤ most → k ≤ most - n → items_counted envelopes walked.x ≤ most
    few_counted less rest = let total = walked.total in omega (arith, total, less, rest, inside walked.x walked.is)

    -- with those in envelopes there are few
    pub few_inside : n ≤ most → k ≤ most - n → IsWithinBounds most envelopes b
    few_inside less rest = record { x = walked.x; is = walked.is; bounded = (few_counted less rest, walked.deep) }

    pub no_fault : n ≤ most → k ≤ most - n → bound_fault most envelopes b ≡ None
    no_fault less rest = few (few_counted less rest)

    -- with those in envelopes there are more
    pub more_inside : n ≤ most → most - n < k → bound_fault most envelopes b ≡ Some (custom (codes "too many items"))
    more_inside less more = many (let total = walked.total in omega (arith, total, less, more, inside walked.x walked.is))

    pub not_more_inside : n ≤ most → most - n < k → ¬ IsWithinBounds most envelopes b
    not_more_inside few more within = let total = walked.total in omega (arith, total, few, more, small_within within, inside walked.x walked.is)

-- where no envelopes may stand, none are counted
pub none_enveloped : (envelopes : Option ℕ) → envelopes ≡ None → (x : Item) → 0 ≡ enveloped_items envelopes x
none_enveloped None is x = refl
none_enveloped (Some depth) is x = absurd (let no : ⊥ = cc in no)

-- for the test of the bounds
pub ruleset bounding = (no_item, too_deep, none_within, more_items, not_more, few_inside, more_inside, not_more_inside)

-- ---- what bytes within the bounds give

module _ {M : Type 0} (most : ℕ) (envelopes : Option ℕ) (b : List ℕ) (read : View → Answer M Fault) where
  -- bytes that aren't refused give what they give as a strict view
  within_read : bound_fault most envelopes b ≡ None → (read_bounded most envelopes read b).result ≡ (read (strict_view_of b)).result
  within_read none = ap (λ f. (unless_fault f (read (strict_view_of b))).result) none

  pub refused_read : (e : Fault) → bound_fault most envelopes b ≡ Some e → (read_bounded most envelopes read b).result ≡ Err e
  refused_read e is = ap (λ f. (unless_fault f (read (strict_view_of b))).result) is

  pub bounded_fails : {R : Type 0} (W T U : Type 0) (r : Result R DecoderError) → bound_fault most envelopes b ≡ None → W
      → IfErr r (λ e. ((read (strict_view_of b)).result ≡ Err (fault_of e)) ⊎ ((e ≡ OutOfMemory) × (T × U)))
      → IfErr r (λ e. ((read_bounded most envelopes read b).result ≡ Err (fault_of e)) ⊎ (W × ((e ≡ OutOfMemory) × T)))
  bounded_fails W T U (Ok w) none within fault = tt
  bounded_fails W T U (Err e) none within (inl bad) = inl (within_read none ∙ bad)
  bounded_fails W T U (Err e) none within (inr memory) = inr (within, (memory.0, memory.1.0))

-- a value whose encoding the bytes are is what they give
pub bounded_given : {A : Type 0} (most : ℕ) (envelopes : Option ℕ) (b : List ℕ) (c : Form A) → IsLawful c → length b < 2 ^ 64 → bound_fault most envelopes b ≡ None → (r : Result A DecoderError)
    → IfOk r (λ w. c.Fits w × (b ≡ encoding (c.item w))) → IfOk r (λ w. (read_bounded most envelopes c.reading.read b).result ≡ Ok (c.reading.seen w))
bounded_given most envelopes b c law short none (Ok w) (fit, whole) = within_read most envelopes b c.reading.read none ∙ (law.back true).back b w short fit whole
bounded_given most envelopes b c law short none (Err e) whole = tt
