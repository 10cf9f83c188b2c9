-- The items of a view, as a reader of items begins with them.
use Rattle.std.proofs.Common.{◌≡◌, ◌≢◌, ℕ, ◌≤◌, ◌↔◌, Option, IsTrue, true, false, MatchResult, IfOk, IsOkAnd, List, [], ◌∷◌, ◌++◌, length, take, drop, map, ◌<◌}
use Rattle.std.proofs.{Common.{◌^◌, Bool, arith, Result, Ok, Err, None, Some, refl, sym, ap, ◌∙◌}, lemmas.Bool.{cond-true, cond-false}}
use Rattle.std.proofs.{lemmas.List.length-map, lemmas.Result.err_from_is_err_and}
use Rattle.rlp_reading.specs.{declared.error.DecoderError.DecoderError, declared.error.DecoderError.TheVariants.RlpExpectedToBeList, declared.header.PayloadInfo.{PayloadInfo}}
use Rattle.rlp_reading.specs.Format.Framing.{fault, framing, map_ok, value, begins_as_list, items, payload, payload_in, split, after_items}
use Rattle.rlp_reading.specs.{Format.Framing.{fault_of_some, strict_fault, strict_list_fault}, Values.RawItem.view_frame}
use Rattle.rlp_reading.specs.Views.View.{View, view_header, item_at, item_count, item_views, items_fault, list_fault}
use Rattle.rlp_reading.specs.Form.{fault_of, items_of, list_of_views, map_value, seen_fault}
use Rattle.rlp_reading.proofs.Lemmas.Numbered.{item_count-fault, item_count-told, payload-fault, told_begins, length-split, split-nil, strict_whole}
use Rattle.rlp_reading.proofs.Lemmas.Numbered.{after_items-next, after_items-nil, after_items-none, strict_counted, strict_not_begun}
use Rattle.rlp_reading.proofs.Lemmas.Numbered.{strict_not_whole, value-items, counted_told, framed_place, unframed_place, not_framed_item}
use Rattle.rlp_reading.proofs.Lemmas.Numbered.{not_told_item, skipped-item, skipped-past, skipped-end}
use Rattle.rlp_reading.proofs.{Lemmas.Texts.{depth-followed, depth-fault, shallow-other}, Lemmas.Fronts.{faulty_front, front_frame_fault}}
use Rattle.rlp.specs.Left.{ItemsLeft, after_next}

no_items : (b : List ℕ) → payload b ≡ [] → items b ≡ []
unfolding items
no_items b none = ap split none ∙ split-nil

no_payload : (b : List ℕ) → begins_as_list b ≡ false → payload b ≡ []
unfolding payload
no_payload b kind = ap (λ k. payload_in k (value b)) kind

-- anything but a list has no items
pub none_of_other : (b p : List ℕ) → begins_as_list b ≡ false → p ≡ [] → split p ≡ items b
none_of_other b p kind none = ap split none ∙ split-nil ∙ sym (no_items b (no_payload b kind))

-- a list that isn't framed has no items
pub none_of_unframed : (b : List ℕ) (e : DecoderError) → begins_as_list b ≡ true → framing b ≡ Err e → split b ≡ [] → split b ≡ items b
none_of_unframed b e kind framed none = none ∙ sym (no_items b (payload-fault b e kind framed))

-- the items of a framed list are the items of its value
pub items_of_framed : (b p : List ℕ) → begins_as_list b ≡ true → value b ≡ Ok p → split p ≡ items b
items_of_framed b p kind is = value-items b p (sym kind) is

-- there is no number of items of anything but a list
pub past_other : (v : View) (p : List ℕ) (i : ℕ) → begins_as_list v.bytes ≡ false → items_fault v ≡ None → item_at v i ≡ Err (fault (after_items p))
past_other v p i kind told = let no : true ≡ false = sym (told_begins v told) ∙ kind in absurd (let never : ⊥ = cc in never)

-- past the last item of a framed list
pub past_framed : (v : View) (q : PayloadInfo) (p : List ℕ) (i : ℕ) → items_fault v ≡ None → framing v.bytes ≡ Ok q → value v.bytes ≡ Ok p
    → length (items v.bytes) ≤ i → item_at v i ≡ Err (fault (after_items p))
past_framed v q p i told framed is past = (framed_place v q p p told framed is refl).past i past

framed_by : (b p : List ℕ) (r : Result PayloadInfo DecoderError) → framing b ≡ r → map_ok (λ (q : PayloadInfo). take q.value_len (drop q.header_len b)) r ≡ Ok p
    → (q : PayloadInfo) × (framing b ≡ Ok q)
framed_by b p r e f = grind arith

-- past the last item of a list whose value is known
pub past_value : (v : View) (p : List ℕ) (i : ℕ) → items_fault v ≡ None → value v.bytes ≡ Ok p → length (items v.bytes) ≤ i → item_at v i ≡ Err (fault (after_items p))
unfolding value
past_value v p i told is past = let (q, framed) = framed_by v.bytes p (framing v.bytes) refl is in past_framed v q p i told framed is past

-- past the last item of a list that isn't framed
pub past_unframed : (v : View) (e : DecoderError) (i : ℕ) → items_fault v ≡ None → framing v.bytes ≡ Err e → split v.bytes ≡ []
    → length (items v.bytes) ≤ i → item_at v i ≡ Err (fault (after_items v.bytes))
past_unframed v e i told framed none past = (unframed_place v e v.bytes told framed none refl).past i past

pub ruleset items_by_frame = (none_of_other, none_of_unframed, items_of_framed, past_other, past_value, past_unframed)

-- ---- the number of items

-- a strict view that is exactly one list
strict_told : (v : View) (n : ℕ) → v.is_strict ≡ true → strict_list_fault v.bytes ≡ None → n ≡ length (items v.bytes) → item_count v ≡ Ok n
strict_told v n strict none same = sym (strict_counted v (Ok n) strict none same)

-- a strict view that isn't exactly one list
strict_untold : (v : View) (e : DecoderError) → v.is_strict ≡ true → strict_list_fault v.bytes ≡ Some e → item_count v ≡ Err e
strict_untold v e strict fault = sym (strict_counted v (Err e) strict fault tt)

-- a strict view, by its items and their number
pub strict_by : {A : Type 0} (v : View) (r : Result (A × ℕ) DecoderError) → v.is_strict ≡ true
    → MatchResult r (λ _. strict_list_fault v.bytes ≡ None) (λ e. strict_list_fault v.bytes ≡ Some e) → IfOk r (λ p. p.1 ≡ length (items v.bytes))
    → MatchResult r (λ p. item_count v ≡ Ok p.1) (λ e. item_count v ≡ Err e)
strict_by v r f h i = grind (arith, strict_told, strict_untold)

-- the number of the items that bytes begin with
pub counted_by : {A : Type 0} (bytes : A → List ℕ) (r : Result (A × ℕ) DecoderError) (fs : List (List ℕ)) → IfOk r (λ p. split (bytes p.0) ≡ fs)
    → IfOk r (λ p. p.1 ≡ length fs) → IfOk r (λ p. p.1 ≡ length (split (bytes p.0)))
counted_by bytes r fs e f = grind arith

-- a lenient view that begins as a list
pub lenient_told : (v : View) (n : ℕ) → v.is_strict ≡ false → begins_as_list v.bytes ≡ true → n ≡ length (items v.bytes) → item_count v ≡ Ok n
lenient_told v n lenient kind same = grind (arith, item_count-told, cond-true, cond-false)

-- a view that doesn't begin as a list
pub other_untold : (v : View) → begins_as_list v.bytes ≡ false → item_count v ≡ Err RlpExpectedToBeList
other_untold v kind = item_count-fault v RlpExpectedToBeList (cond-false (begins_as_list v.bytes) (list_fault v) (Some RlpExpectedToBeList) kind)

pub ruleset counted_views = (lenient_told, other_untold)

-- ---- a list, by its header

-- no bytes have no fault, and only they
no_fault : (p : List ℕ) → fault_of_some p ≡ None → p ≡ []
no_fault p e = grind arith

counted_none : (v : View) (o : Option DecoderError) → v.is_strict ≡ true → strict_list_fault v.bytes ≡ o → item_count v ≡ Ok (length (items v.bytes)) → o ≡ None
counted_none v o e f h = grind (arith, strict_untold)

-- a strict view of exactly one list, by what follows the items in the list
pub strict_by_end : (v : View) (q : List ℕ) → v.is_strict ≡ true → begins_as_list v.bytes ≡ true → strict_fault v.bytes ≡ None → value v.bytes ≡ Ok q
    → (IsTrue v.is_strict → after_items q ≡ []) ↔ (item_count v ≡ Ok (length (items v.bytes)))
strict_by_end v q strict kind none is =
    let same = strict_whole v.bytes q (sym kind) none is in (
      λ ended. strict_told v (length (items v.bytes)) strict (sym same ∙ ap fault_of_some (ended strict)) refl,
      λ told also. no_fault (after_items q) (same ∙ counted_none v (strict_list_fault v.bytes) strict refl told),
    )

-- a strict view that isn't exactly one item
pub strict_unframed : (v : View) (e : DecoderError) → v.is_strict ≡ true → begins_as_list v.bytes ≡ true → strict_fault v.bytes ≡ Some e → item_count v ≡ Err e
strict_unframed v e strict kind is = strict_untold v e strict (strict_not_whole v.bytes e (sym kind) is)

-- a lenient view that begins as a list
pub lenient_by_end : (v : View) (q : List ℕ) → v.is_strict ≡ false → begins_as_list v.bytes ≡ true
    → (IsTrue v.is_strict → after_items q ≡ []) ↔ (item_count v ≡ Ok (length (items v.bytes)))
lenient_by_end v q lenient kind = grind (arith, lenient_told)

pub ruleset framed_views = (strict_by_end, strict_unframed, lenient_by_end, other_untold)

told_of : (v : View) (vs : List View) (r : Result ℕ DecoderError) → item_count v ≡ r → map_value (λ (n : ℕ). item_views v) (seen_fault r) ≡ Ok vs
    → item_count v ≡ Ok (length (items v.bytes))
told_of v vs r e f = grind (arith, item_count-told, counted_told)

-- the items of a view, by what follows those that its list's header leads to
pub items_by_end : (v : View) (strict : Bool) (q p : List ℕ) → strict ≡ v.is_strict → p ≡ q → split q ≡ items v.bytes
    → (IsTrue v.is_strict → after_items q ≡ []) ↔ (item_count v ≡ Ok (length (items v.bytes)))
    → (IsTrue v.is_strict → after_items p ≡ []) ↔ (items_of v ≡ Ok (map (λ b. record { bytes = b; is_strict = strict }) (split p)))
items_by_end v strict q p kind same parts told = grind (arith, told_of)

list_told_by : (v : View) (strict : Bool) → v.is_strict ≡ strict → list_fault v ≡ None → list_of_views v ≡ Ok (item_views v)
list_told_by v false kind none = cond-false v.is_strict (items_of v) (Ok (item_views v)) kind
list_told_by v true kind none = grind (arith, cond-true, strict_told)

-- a view that can be read as a list
pub list_told : (v : View) → list_fault v ≡ None → list_of_views v ≡ Ok (item_views v)
list_told v none = list_told_by v v.is_strict refl none

list_faulty_by : (v : View) (strict : Bool) (e : DecoderError) → v.is_strict ≡ strict → list_fault v ≡ Some e → list_of_views v ≡ Err (fault_of e)
list_faulty_by v false e kind fault = grind (arith, cond-false)
list_faulty_by v true e kind fault = grind (arith, cond-true, strict_untold)

-- a view that can't be read as a list
pub list_faulty : (v : View) (e : DecoderError) → list_fault v ≡ Some e → list_of_views v ≡ Err (fault_of e)
list_faulty v e fault = list_faulty_by v v.is_strict e refl fault

-- the items of a list of which an item was taken
pub some_listed : (v : View) (vs left : List View) → list_of_views v ≡ Ok vs → 1 ≤ length left → length left ≤ length vs → IsOkAnd (list_of_views v) (λ vs. vs ≢ [])
some_listed v vs left is one few = grind arith

-- ---- a reader of items

-- what a reader of the bytes has left
abbrev pub left_in : Bool → List ℕ → ItemsLeft
left_in strict b = record {
  views = map (λ b. record { bytes = b; is_strict = strict }) (split b);
  after = after_items b;
}

-- the items of a slice are few
pub few_views : (strict : Bool) (b : List ℕ) → length b < 2 ^ 64 → length (left_in strict b).views < 2 ^ 64
few_views strict b short = grind (arith, length-map, length-split)

-- an item is taken, and the same bytes follow the items
pub after_taken : (b item others : List ℕ) → split b ≡ item ∷ split others → b ≡ item ++ others → after_items others ≡ after_items b
after_taken b item others parts whole = sym (after_items-next b item others parts whole)

-- one item is taken
pub one_taken : (strict : Bool) (b item others : List ℕ) → split b ≡ item ∷ split others → b ≡ item ++ others
    → left_in strict others ≡ after_next (left_in strict b)
one_taken strict b item others parts whole = grind (arith, after_taken)

-- nothing is left of no bytes
pub none_left : (strict : Bool) (b : List ℕ) → b ≡ [] → ((left_in strict b).views ≡ []) × (after_items b ≡ [])
none_left strict b none = (ap (map (λ b. record { bytes = b; is_strict = strict })) (ap split none ∙ split-nil), ap after_items none ∙ after_items-nil)

map-none : {A B : Type 0} (f : A → B) (xs : List A) → map f xs ≡ [] → xs ≡ []
map-none f [] none = refl
map-none f (x ∷ xs) none = absurd (let no : ⊥ = cc in no)

-- where nothing is left, there are no bytes
pub no_bytes_left : (strict : Bool) (b : List ℕ) → (left_in strict b).views ≡ [] → after_items b ≡ [] → b ≡ []
no_bytes_left strict b none ended = sym (after_items-none b (map-none _ (split b) none)) ∙ ended

-- ---- the faults of a view whose bytes aren't framed

pub faulty_view : (b : List ℕ) (strict : Bool) (e : DecoderError) → framing b ≡ Err e
    → (view_frame (record { bytes = b; is_strict = strict }) ≡ Err e) × (view_header (record { bytes = b; is_strict = strict }) ≡ Err e)
faulty_view b false e is = (front_frame_fault b e is, is)
faulty_view b true e is = grind (arith, faulty_front)

-- ---- for the calls and the laws of a view

pub ruleset nested = (depth-followed, depth-fault, shallow-other)

pub ruleset strict_lists = (strict_not_begun, strict_not_whole, strict_whole, value-items)

pub ruleset walks = (
  err_from_is_err_and,
  skipped-item,
  skipped-past,
  skipped-end,
  not_framed_item,
  not_told_item,
)
