-- The items of a view, one after another and by number.
use Rattle.std.proofs.Common.{ℕ, zero, suc, ◌+◌, ◌-◌, ◌<◌, ◌≤◌, ◌≡◌, List, [], ◌∷◌, length, drop, map, Result, Ok, Err, refl, sym, ◌∙◌, ap, arith}
use Rattle.std.proofs.Common.{length-drop, ◌⊎◌, ⊎_elim, true, false, ◌++◌, take, get_or, Option, Some, None, option_map, ◌↔◌, ltb}
use Rattle.std.proofs.Common.{lt-ltb, le-ltb, length-append, ◌==◌, IfOk, MatchResult, append_assoc, append-nil, drop_at}
use Rattle.std.proofs.{lemmas.List.{drop_all, drop-map, length-map}, lemmas.Bool.{cases_lt, cond-true, cond-false}, lemmas.Option.{slice_get-map, slice_get_past, slice_get-get_or}}
use Rattle.std.specs.List.{slice_get, concat}
use Rattle.rlp_reading.specs.{declared.error.DecoderError.{DecoderError}, Format.Skipping.{IsAfterItems}}
use Rattle.rlp_reading.specs.Format.Framing.{frame, split, split_within, frame_and_more, items, payload, fault, framing, map_ok, value, begins_as_list}
use Rattle.rlp_reading.specs.Format.Framing.{payload_in, rest, fault_of_some, strict_fault, strict_list_fault, unless, after_items, fault_in}
use Rattle.rlp_reading.specs.Views.View.{View, item_views, item_count, item_with_place, item_by, item_at, list_fault, items_fault, strict_view_of}
use Rattle.rlp_reading.specs.{declared.error.DecoderError.TheVariants.RlpExpectedToBeList, declared.header.PayloadInfo.PayloadInfo, Values.FieldPlace.IsAtPlace}
use Rattle.rlp_reading.proofs.{Lemmas.Views.passed, Lemmas.Skipping.after-all}
use Rattle.std.proofs.{Common.take_all, Math.Seq.{drop-append-add, drop-nil}, lemmas.List.{drop-drop}, lemmas.Grind.{common_steps}}

frame_and_more-shorter : (turns : ℕ) (p : List ℕ) (r : Result (List ℕ) DecoderError) → ((q : List ℕ) → length (split_within turns q) ≤ turns)
    → length (frame_and_more (split_within turns) p r) ≤ suc turns
frame_and_more-shorter turns p r below = grind arith

split_within-shorter : (turns : ℕ) (p : List ℕ) → length (split_within turns p) ≤ turns
split_within-shorter zero p = omega arith
split_within-shorter (suc turns) p = frame_and_more-shorter turns p (frame p) (split_within-shorter turns)

-- no more items than bytes
pub length-split : (p : List ℕ) → length (split p) ≤ length p
unfolding split
length-split p = split_within-shorter (length p) p

-- an empty slice has no items
pub split-nil : split [] ≡ []
unfolding split
split-nil = refl

module _ {A : Type 0} where
  -- the elements after place i + 1, by those after place i
  pub drop-next : (i : ℕ) (xs ys : List A) (x : A) → drop i xs ≡ x ∷ ys → drop (i + 1) xs ≡ ys
  drop-next i xs ys x e = sym (drop-drop 1 i xs) ∙ ap (drop 1) e

  -- after the end there are no elements
  pub drop-past : (i j : ℕ) (xs : List A) → drop i xs ≡ [] → i ≤ j → drop j xs ≡ []
  drop-past i j xs e h = drop_all j xs (let n : length xs - i ≡ 0 = sym (length-drop i xs) ∙ ap length e in omega arith)

  -- a place that an element follows is within the list
  pub drop-inside : (i : ℕ) (xs ys : List A) (x : A) → drop i xs ≡ x ∷ ys → i < length xs
  drop-inside i xs ys x e = let n : length xs - i ≡ length (x ∷ ys) = sym (length-drop i xs) ∙ ap length e in omega arith

-- the view of these bytes, of the kind of v
viewed : View → List ℕ → View
viewed v b = record v { bytes = b }

-- the views of the items from place i on, by the items
pub drop-item_views : (v : View) (x : List ℕ) (i : ℕ) (ys : List (List ℕ)) → drop i (items v.bytes) ≡ x ∷ ys
    → drop i (item_views v) ≡ (record v { bytes = x }) ∷ drop (i + 1) (item_views v)
unfolding viewed
drop-item_views v x i ys e = grind (arith, drop-map, drop-next)

-- after the last item there is no view
pub drop-item_views-past : (v : View) (i j : ℕ) → drop i (items v.bytes) ≡ [] → i ≤ j → drop j (item_views v) ≡ []
unfolding viewed
drop-item_views-past v i j e h = drop-past i j (item_views v) (drop-map (viewed v) i (items v.bytes) ∙ ap (map (viewed v)) e) h

-- the number of views is the number of items
pub length-item_views : (v : View) → length (item_views v) ≡ length (split (payload v.bytes))
unfolding viewed items
length-item_views v = length-map (items v.bytes) (viewed v)

pub ruleset splits = (
  split-nil,
  drop-next,
  drop-past,
  drop-inside,
  length-split,
  drop-item_views,
  drop-item_views-past,
  length-item_views,
  length-map,
  length-drop,
)

-- ---- answers, by the fault of numbers

pub item_count-fault : (v : View) (e : DecoderError) → items_fault v ≡ Some e → item_count v ≡ Err e
unfolding item_count
item_count-fault v e is = ap (λ o. unless o (Ok (length (items v.bytes)))) is

pub item_count-told : (v : View) → items_fault v ≡ None → item_count v ≡ Ok (length (items v.bytes))
unfolding item_count
item_count-told v is = ap (λ o. unless o (Ok (length (items v.bytes)))) is

pub item_with_place-told : (v : View) (i : ℕ) (r : Result PayloadInfo DecoderError) → items_fault v ≡ None → framing v.bytes ≡ r
    → item_with_place v i ≡ item_by v i r
unfolding item_with_place
item_with_place-told v i r is same = ap (λ o. unless o (item_by v i (framing v.bytes))) is ∙ ap (item_by v i) same

-- items are told by number only of bytes that begin as a list
pub told_begins : (v : View) → items_fault v ≡ None → begins_as_list v.bytes ≡ true
told_begins v is = (passed (begins_as_list v.bytes) (list_fault v) RlpExpectedToBeList is).0

-- a list that isn't framed has no value
pub payload-fault : (b : List ℕ) (e : DecoderError) → begins_as_list b ≡ true → framing b ≡ Err e → payload b ≡ []
unfolding payload value
payload-fault b e kind is = ap (λ k. payload_in k (value b)) kind ∙ ap (λ r. payload_in true (map_ok (λ p. take p.value_len (drop p.header_len b)) r)) is

items-payload : (b : List ℕ) → payload b ≡ [] → items b ≡ []
unfolding items
items-payload b e = ap split e ∙ split-nil

item_at-inside : (v : View) (i : ℕ) (p : PayloadInfo) → items_fault v ≡ None → framing v.bytes ≡ Ok p → i < length (items v.bytes)
    → item_at v i ≡ Ok (record v { bytes = get_or (items v.bytes) i [] })
item_at-inside v i p told is inside =
    ap (map_ok (λ q. q.0)) (item_with_place-told v i (Ok p) told is ∙ cond-true (ltb i (length (items v.bytes))) _ _ (lt-ltb i (length (items v.bytes)) inside))

-- past the last item it is the fault of what follows the items
pub item_at-past : (v : View) (i : ℕ) (p : PayloadInfo) → items_fault v ≡ None → framing v.bytes ≡ Ok p → length (items v.bytes) ≤ i
    → item_at v i ≡ Err (fault (rest v.bytes))
item_at-past v i p told is past =
    ap (map_ok (λ q. q.0)) (item_with_place-told v i (Ok p) told is ∙ cond-false (ltb i (length (items v.bytes))) _ _ (le-ltb i (length (items v.bytes)) past))

-- of a list that isn't framed, its fault
pub item_at-unframed : (v : View) (i : ℕ) (e : DecoderError) → items_fault v ≡ None → framing v.bytes ≡ Err e → item_at v i ≡ Err e
item_at-unframed v i e told is = ap (map_ok (λ q. q.0)) (item_with_place-told v i (Err e) told is)

slice_get-views : (v : View) (i : ℕ) → i < length (items v.bytes) → slice_get (item_views v) i ≡ Some (record v { bytes = get_or (items v.bytes) i [] })
unfolding viewed
slice_get-views v i inside = slice_get-map (viewed v) (items v.bytes) i ∙ ap (option_map (viewed v)) (slice_get-get_or (items v.bytes) i [] inside)

-- as many views as items
pub length-views : (v : View) → length (item_views v) ≡ length (items v.bytes)
unfolding viewed
length-views v = length-map (items v.bytes) (viewed v)

-- the fault of each number past the last item: that of what follows the items, or of a list that isn't framed
abbrev past_fault : List ℕ → Result PayloadInfo DecoderError → DecoderError
past_fault b (Ok p) = fault (rest b)
past_fault b (Err e) = e

abbrev item_or : DecoderError → Option View → Result View DecoderError
item_or e None = Err e
item_or e (Some item) = Ok item

told_by : (v : View) (i : ℕ) (r : Result PayloadInfo DecoderError) → items_fault v ≡ None → framing v.bytes ≡ r
    → item_at v i ≡ item_or (past_fault v.bytes r) (slice_get (item_views v) i)
told_by v i (Ok p) told is =
    ⊎_elim
    (λ inside. item_at-inside v i p told is inside ∙ ap (item_or (fault (rest v.bytes))) (sym (slice_get-views v i inside)))
    (λ past. item_at-past v i p told is past
    ∙ ap (item_or (fault (rest v.bytes))) (sym (slice_get_past (item_views v) i (omega (arith, length-views v)))))
    (cases_lt i (length (items v.bytes)))
told_by v i (Err e) told is =
    grind (arith, items-payload, payload-fault, told_begins, item_at-unframed, slice_get_past, length-views)

-- the item by number is the one in that place, or the fault of the numbers past the last item
told_numbered : (v : View) (i : ℕ) → items_fault v ≡ None → item_at v i ≡ item_or (past_fault v.bytes (framing v.bytes)) (slice_get (item_views v) i)
told_numbered v i told = told_by v i (framing v.bytes) told refl

-- the item by number is the one in that place
pub item_at-slice_get : (v item : View) (i : ℕ) → item_at v i ≡ Ok item → slice_get (item_views v) i ≡ Some item
unfolding item_with_place
item_at-slice_get v item i e = grind (arith, told_numbered)

-- a view that can't be read as a list has that fault for every number
pub item_at-no_list : (v : View) (i : ℕ) (e : DecoderError) → list_fault v ≡ Some e → item_at v i ≡ Err e
unfolding item_with_place strict_list_fault
item_at-no_list v i e is = grind arith

-- the items by number are those in order, if the view can be read as a list
pub item_at-in_order : (v item : View) (i : ℕ) → (item_at v i ≡ Ok item) ↔ ((list_fault v ≡ None) × (slice_get (item_views v) i ≡ Some item))
unfolding payload viewed
item_at-in_order v item i = grind (arith, item_at-no_list, item_at-slice_get, told_numbered, items-payload)

-- past the last item every number has the same answer
pub item_at-past_same : (v : View) (i j : ℕ) → length (item_views v) ≤ i → length (item_views v) ≤ j → item_at v i ≡ item_at v j
unfolding item_with_place
item_at-past_same v i j l k = grind (arith, told_numbered, slice_get_past)

pub slice_get-middle : {A B : Type 0} (f : A → B) (before after : List A) (x : A) → slice_get (map f (before ++ x ∷ after)) (length before) ≡ Some (f x)
slice_get-middle f [] after x = refl
slice_get-middle f (y ∷ before) after x = slice_get-middle f before after x

-- a view that has a number of items has no fault of its items
pub counted_told : (v : View) (n : ℕ) → item_count v ≡ Ok n → items_fault v ≡ None
counted_told v n is = grind (arith, item_count-fault)

pub told_whole : (b : List ℕ) → items_fault (strict_view_of b) ≡ None → strict_list_fault b ≡ None
told_whole b told = (passed (begins_as_list b) (strict_list_fault b) RlpExpectedToBeList told).1

-- ---- the bytes after the items of a payload

pub after_items-next : (p item others : List ℕ) → split p ≡ item ∷ split others → p ≡ item ++ others → after_items p ≡ after_items others
after_items-next p item others parts whole = grind (arith, length-append, drop-append-add)

pub after_items-none : (p : List ℕ) → split p ≡ [] → after_items p ≡ p
after_items-none p none = ap (λ fs. drop (length (concat fs)) p) none

pub after_items-nil : after_items [] ≡ []
after_items-nil = drop-nil (length (concat (split [])))

pub fault_of_some-some : (p : List ℕ) → 0 < length p → fault_of_some p ≡ Some (fault p)
fault_of_some-some p some = grind arith

pub no_bytes : (b : List ℕ) → true ≡ (length b == 0) → b ≡ []
no_bytes b is = grind (arith, common_steps)

pub some_bytes : (b : List ℕ) → false ≡ (length b == 0) → 0 < length b
some_bytes b is = grind arith

-- ---- the fault of a list

-- bytes that don't begin as a list
pub strict_not_begun : (b : List ℕ) → false ≡ begins_as_list b → strict_list_fault b ≡ Some RlpExpectedToBeList
unfolding strict_list_fault
strict_not_begun b kind = cond-false (begins_as_list b) _ _ (sym kind)

-- a list that isn't framed, or is followed by bytes
pub strict_not_whole : (b : List ℕ) (e : DecoderError) → true ≡ begins_as_list b → strict_fault b ≡ Some e → strict_list_fault b ≡ Some e
unfolding items rest strict_list_fault
strict_not_whole b e kind is = grind arith

-- the value of a framed list is its payload
pub value-payload : (b q : List ℕ) → true ≡ begins_as_list b → value b ≡ Ok q → q ≡ payload b
unfolding payload
value-payload b q kind is = sym (ap (λ k. payload_in k (value b)) (sym kind) ∙ ap (payload_in true) is)

-- bytes that are exactly one list have the fault of the bytes that follow the items in it
pub strict_whole : (b q : List ℕ) → true ≡ begins_as_list b → strict_fault b ≡ None → value b ≡ Ok q → fault_of_some (after_items q) ≡ strict_list_fault b
unfolding items rest strict_list_fault
strict_whole b q kind none is = grind (arith, value-payload)

-- its items are those of its value
pub value-items : (b q : List ℕ) → true ≡ begins_as_list b → value b ≡ Ok q → split q ≡ items b
unfolding items
value-items b q kind is = ap split (value-payload b q kind is)

-- ---- the fault of items by number

-- a strict view has the fault of its bytes
items_strict : (v : View) → v.is_strict ≡ true → items_fault v ≡ strict_list_fault v.bytes
unfolding strict_list_fault
items_strict v strict = grind arith

-- the number of items of a strict view, as its bytes are read
pub strict_counted : (v : View) (r : Result ℕ DecoderError) → v.is_strict ≡ true
    → MatchResult r (λ _. strict_list_fault v.bytes ≡ None) (λ e. strict_list_fault v.bytes ≡ Some e) → IfOk r (λ n. n ≡ length (items v.bytes))
    → r ≡ item_count v
strict_counted v (Ok n) strict none same = sym (item_count-told v (items_strict v strict ∙ none) ∙ ap Ok (sym same))
strict_counted v (Err e) strict fault same = sym (item_count-fault v e (items_strict v strict ∙ fault))

-- ---- the places of the items of a list

-- the fault of bytes without any of the headers
pub fault-err : (b : List ℕ) (e : DecoderError) → framing b ≡ Err e → e ≡ fault b
unfolding fault
fault-err b e is = sym (ap fault_in is)

pub get_or-drop : {A : Type 0} (i : ℕ) (xs ys : List A) (x d : A) → drop i xs ≡ x ∷ ys → get_or xs i d ≡ x
get_or-drop i xs ys x d e = grind (arith, common_steps)

-- the item after the first i items of a list, and its place
pub skipped-item : (v : View) (item : List ℕ) (i : ℕ) (p : PayloadInfo) (others left q : List ℕ) → items_fault v ≡ None → framing v.bytes ≡ Ok p
    → value v.bytes ≡ Ok q → IsAfterItems q i left → split left ≡ item ∷ split others
    → Ok (record v { bytes = item }, p.header_len + (length q - length left)) ≡ item_with_place v i
skipped-item v item i p others left q told is content after parts =
    let same : split q ≡ items v.bytes = value-items v.bytes q (sym (told_begins v told)) content in
    let here : drop i (items v.bytes) ≡ item ∷ split others = ap (drop i) (sym same) ∙ sym after.others ∙ parts in
    let inside : i < length (items v.bytes) = drop-inside i (items v.bytes) (split others) item here in
    let lengths : length q ≡ length (concat (take i (split q))) + length left = ap length after.whole ∙ length-append (concat (take i (split q))) left in
    let place : p.header_len + (length q - length left) ≡ p.header_len + length (concat (take i (items v.bytes))) =
    omega (arith, ap (λ fs. length (concat (take i fs))) same) in
    let found : item ≡ get_or (items v.bytes) i [] = sym (get_or-drop i (items v.bytes) (split others) item [] here) in
    ap (λ (n : ℕ). Ok (record v { bytes = item }, n)) place
    ∙ ap (λ (b : List ℕ). Ok (record v { bytes = b }, p.header_len + length (concat (take i (items v.bytes))))) found
    ∙ sym (cond-true (ltb i (length (items v.bytes))) _ _ (lt-ltb i (length (items v.bytes)) inside))
    ∙ sym (item_with_place-told v i (Ok p) told is)

-- a list of fewer items has the fault of the bytes that follow the items
pub skipped-past : (v : View) (i : ℕ) (p : PayloadInfo) (q : List ℕ) (e : DecoderError) → items_fault v ≡ None → framing v.bytes ≡ Ok p
    → value v.bytes ≡ Ok q → length (split q) ≤ i → e ≡ fault (after_items q) → Err e ≡ item_with_place v i
unfolding rest items
skipped-past v i p q e told is content few fault_is =
    let same : q ≡ payload v.bytes = value-payload v.bytes q (sym (told_begins v told)) content in
    let past : ltb i (length (items v.bytes)) ≡ false = le-ltb i (length (items v.bytes)) (omega (arith, ap (λ b. length (split b)) same)) in
    ap Err (fault_is ∙ ap (λ b. fault (after_items b)) same)
    ∙ sym (cond-false (ltb i (length (items v.bytes))) _ _ past)
    ∙ sym (item_with_place-told v i (Ok p) told is)

-- the same where no item is left after the first i items
pub skipped-end : (v : View) (i : ℕ) (p : PayloadInfo) (left q : List ℕ) (e : DecoderError) → items_fault v ≡ None → framing v.bytes ≡ Ok p
    → value v.bytes ≡ Ok q → IsAfterItems q i left → split left ≡ [] → e ≡ fault left → Err e ≡ item_with_place v i
skipped-end v i p left q e told is content after none fault_is =
    let all = after-all q left i (i + 1) after none (omega arith) in
    skipped-past v i p q e told is content (omega (arith, all.0)) (fault_is ∙ all.1)

-- a view that isn't framed has its fault for each number
pub not_framed_item : (v : View) (i : ℕ) (e : DecoderError) → items_fault v ≡ None → framing v.bytes ≡ Err e → Err e ≡ item_with_place v i
not_framed_item v i e told is = sym (item_with_place-told v i (Err e) told is)

pub not_told_item : (v : View) (i : ℕ) (e : DecoderError) → items_fault v ≡ Some e → Err e ≡ item_with_place v i
unfolding item_with_place
not_told_item v i e is = grind arith

-- ---- the items of a view, taken one after another

-- at the beginning of a framed list
pub framed_place : (v : View) (p : PayloadInfo) (q left : List ℕ) → items_fault v ≡ None → framing v.bytes ≡ Ok p → value v.bytes ≡ Ok q → left ≡ q
    → IsAtPlace v 0 left
unfolding items rest
framed_place v p q left told framed is same = grind (arith, value-payload, value-items, item_at-past)

-- at the beginning of a list that isn't framed, which has no items
pub unframed_place : (v : View) (e : DecoderError) (left : List ℕ) → items_fault v ≡ None → framing v.bytes ≡ Err e → split v.bytes ≡ []
    → left ≡ v.bytes → IsAtPlace v 0 left
unframed_place v e left told framed none same =
    grind (arith, fault-err, items-payload, payload-fault, item_at-unframed)

pub ruleset entered = (payload-fault)

pub ruleset none_left = (split-nil, no_bytes)
