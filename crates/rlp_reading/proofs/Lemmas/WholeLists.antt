-- Bytes that are exactly one list, and the items of a view that holds a list.
use Rattle.std.proofs.Common.{◌≡◌, ℕ, ◌^◌, ◌<◌, ◌≤◌, true, List, [], ◌∷◌, ◌++◌, length, map, refl, sym, ap, ◌∙◌, subst, arith}
use Rattle.std.proofs.Common.{le_refl, append-nil, drop_at, Some, None, Result, Ok, Err, append_assoc, length-append, Bool, false, IsTrue}
use Rattle.std.proofs.{lemmas.Bool.{cond-true}, lemmas.List.{length-map}, lemmas.List.Elements.{All-from_recursion, recursion_from_All}, lemmas.Simd.map-map}
use Rattle.std.specs.List.{concat, slice_get, AllByRecursion}
use Rattle.rlp_format.specs.Format.Encoding.{Item, list_of, AreBytes, encoding, IsSized, BeginsWith}
use Rattle.rlp_format.proofs.Lemmas.Encodings.{front_sized}
use Rattle.rlp_reading.specs.{declared.error.DecoderError.{DecoderError}, declared.error.DecoderError.TheVariants.{RlpExpectedToBeList, RlpIsTooShort}}
use Rattle.rlp_reading.specs.{declared.header.PayloadInfo.{PayloadInfo}, Format.Framing.{strict_fault, strict_fault_in, strict_list_fault, HasHeader, header, fault}}
use Rattle.rlp_reading.specs.Format.Framing.{framing, total_len, begins_as_list, items, payload, rest, split, fault_of_some, first_fault}
use Rattle.rlp_reading.specs.Views.View.{item_at, item_count, items_fault, strict_view_of, Holds, HoldsItem, View, item_views, list_fault}
use Rattle.rlp_reading.proofs.Lemmas.Frames.{Frames, framing_reads, join_is, walk, encoding_item, framing_is, longer}
use Rattle.rlp_reading.proofs.Lemmas.Views.{items_of_list, list_shape, payload_bytes, strict_fault-encoding, whole_by, payload_short}
use Rattle.rlp_reading.proofs.Lemmas.Numbered.{item_count-told, item_at-in_order, item_at-past, length-views, slice_get-middle}
use Rattle.rlp_reading.proofs.{Lemmas.Reading.{front_bytes, back_bytes, Bytes}, Lemmas.StringsHeld.held_begins}

-- ---- a list without a strict fault is read whole

record IsFramedWhole (b : List ℕ) : Type 0 where
  info : PayloadInfo
  framed : framing b ≡ Ok info
  all : length b ≤ total_len info

framed_whole : (b : List ℕ) (r : Result PayloadInfo DecoderError) → framing b ≡ r → strict_fault_in b r ≡ None → IsFramedWhole b
framed_whole b r is none = grind arith

-- the conditions under which a list is whole
pub record IsWholeList (b : List ℕ) : Type 0 where
  pub kind : begins_as_list b ≡ true
  pub framed : strict_fault b ≡ None
  pub none_left : rest b ≡ []

pub whole_parts : (b : List ℕ) → strict_list_fault b ≡ None → IsWholeList b
unfolding strict_list_fault
whole_parts b is = grind arith

-- the payload is the items and the bytes that follow them
pub payload_parts : (b : List ℕ) → AreBytes b → payload b ≡ concat (items b) ++ rest b
unfolding items split rest
payload_parts b bytes =
    let w = walk (length (payload b)) (payload b) (payload_bytes b bytes) (le_refl (length (payload b))) in
    grind (arith, drop_at)

-- a whole list whose items are encodings is the encoding of the list of these items
pub whole_list : (b : List ℕ) (xs : List Item) → AreBytes b → strict_list_fault b ≡ None → items b ≡ map encoding xs → b ≡ encoding (list_of xs)
unfolding strict_fault
whole_list b xs bytes is same =
    let parts = whole_parts b is in
    let w = framed_whole b (framing b) refl parts.framed in
    let (has, within) = subst (Frames b) w.framed (framing_reads b bytes) in
    grind (arith, payload_parts, append-nil, join_is, whole_by)

-- ---- the encoding of a list is a whole list

-- an item whose encoding is a whole slice is sized
pub whole_sized : (x : Item) (b : List ℕ) → length b < 2 ^ 64 → b ≡ encoding x → IsSized x
whole_sized x b fits is = front_sized x b [] fits (is ∙ sym (append-nil (encoding x)))

pub strict_list_fault-encoding : (xs : List Item) (b : List ℕ) → IsSized (list_of xs) → b ≡ encoding (list_of xs) → strict_list_fault b ≡ None
unfolding strict_list_fault
strict_list_fault-encoding xs b sized is =
    let begins = is ∙ sym (append-nil (encoding (list_of xs))) in
    cond-true (begins_as_list b) _ _ (list_shape xs b sized ([], begins)).0
    ∙ ap (λ o. first_fault o (fault_of_some (rest b))) (strict_fault-encoding (list_of xs) b sized is)
    ∙ ap fault_of_some (items_of_list xs b sized ([], begins)).1

pub strict_told : (b : List ℕ) → begins_as_list b ≡ true → strict_list_fault b ≡ None → items_fault (strict_view_of b) ≡ None
strict_told b kind is = cond-true (begins_as_list b) _ _ kind ∙ is

pub strict_items : (xs : List Item) (b : List ℕ) → IsSized (list_of xs) → b ≡ encoding (list_of xs) → items b ≡ map encoding xs
strict_items xs b sized is = (items_of_list xs b sized ([], is ∙ sym (append-nil (encoding (list_of xs))))).0

-- ---- the items of a slice

-- bytes that a slice can hold
pub record IsPart (f : List ℕ) : Type 0 where
  pub held : AreBytes f
  pub short : length f < 2 ^ 64

all_parts : (fs : List (List ℕ)) (left : List ℕ) → Bytes (concat fs ++ left) → length (concat fs ++ left) < 2 ^ 64 → AllByRecursion IsPart fs
all_parts [] left bytes small = tt
all_parts (f ∷ fs) left bytes small =
    let whole : (f ++ concat fs) ++ left ≡ f ++ (concat fs ++ left) = append_assoc f (concat fs) left in
    let both = subst Bytes whole bytes in
    let lengths = length-append f (concat fs ++ left) in (
      record { held = All-from_recursion (λ byte. byte < 2 ^ 8) f (front_bytes f (concat fs ++ left) both); short = omega (arith, ap length whole, lengths) },
      all_parts fs left (back_bytes f (concat fs ++ left) both) (omega (arith, ap length whole, lengths)),
    )

-- each item of a slice can be held by a slice
pub item_parts : (b : List ℕ) → AreBytes b → length b < 2 ^ 64 → AllByRecursion IsPart (items b)
item_parts b bytes fits =
    let whole : payload b ≡ concat (items b) ++ rest b = payload_parts b bytes in
    grind (arith, recursion_from_All, payload_bytes, all_parts, payload_short)

-- ---- the items by number of a view, lenient or strict, and of one that holds the encoding of a list

no_bytes_short : fault [] ≡ RlpIsTooShort
unfolding fault framing header
no_bytes_short = refl

-- ---- past the last item of a strict view

past_by : (strict : Bool) (b : List ℕ) (i : ℕ) → IsTrue strict → list_fault (record { bytes = b; is_strict = strict }) ≡ None
    → length (item_views (record { bytes = b; is_strict = strict })) ≤ i → item_at (record { bytes = b; is_strict = strict }) i ≡ Err RlpIsTooShort
unfolding strict_fault
past_by false b i strict none past = absurd (let no : ⊥ = cc in no)
past_by true b i strict none past =
    let parts = whole_parts b none in
    grind (arith, whole_parts, framed_whole, item_at-past, strict_told, length-views, no_bytes_short)

-- no bytes follow the items of a strict view that can be read as a list
pub strict_past : (v : View) (i : ℕ) → IsTrue v.is_strict → list_fault v ≡ None → length (item_views v) ≤ i → item_at v i ≡ Err RlpIsTooShort
strict_past v i strict none past = past_by v.is_strict v.bytes i strict none past

-- ---- a view that holds the encoding of a list

no_fault_by : (strict : Bool) (b : List ℕ) (xs : List Item) → IsSized (list_of xs) → Holds strict b (encoding (list_of xs))
    → list_fault (record { bytes = b; is_strict = strict }) ≡ None
no_fault_by strict b xs sized holds = grind (arith, strict_list_fault-encoding)

module _ (v : View) (xs : List Item) (fits : length v.bytes < 2 ^ 64) (holds : HoldsItem v (list_of xs)) where
  begins : BeginsWith v.bytes (encoding (list_of xs))
  begins = held_begins v (list_of xs) holds

  sized : IsSized (list_of xs)
  sized = front_sized (list_of xs) v.bytes begins.0 fits begins.1

  no_fault : list_fault v ≡ None
  no_fault = no_fault_by v.is_strict v.bytes xs sized holds

  told : items_fault v ≡ None
  told = cond-true (begins_as_list v.bytes) (list_fault v) (Some RlpExpectedToBeList) (list_shape xs v.bytes sized begins).0 ∙ no_fault

  framed : (p : PayloadInfo) × (framing v.bytes ≡ Ok p)
  framed =
      let item = encoding_item (list_of xs) sized in
      let header : HasHeader v.bytes item.header_len item.value_len =
      subst (λ b. HasHeader b item.header_len item.value_len) (sym begins.1) (longer begins.0 item.has_header) in
      grind (arith, framing_is, length-append)

  pub held_count : item_count v ≡ Ok (length xs)
  held_count = item_count-told v told ∙ ap (λ fs. Ok (length fs)) (items_of_list xs v.bytes sized begins).0 ∙ ap Ok (length-map xs encoding)

  pub held_views : item_views v ≡ map (λ x. record v { bytes = encoding x }) xs
  held_views = ap (map (λ b. record v { bytes = b })) (items_of_list xs v.bytes sized begins).0 ∙ map-map (λ b. record v { bytes = b }) encoding xs

  pub held_past : (i : ℕ) → length xs ≤ i → item_at v i ≡ Err RlpIsTooShort
  held_past i past =
      let left = items_of_list xs v.bytes sized begins in
      grind (arith, framed, item_at-past, told, length-map, no_bytes_short)

pub held_at : (v : View) (before after : List Item) (x : Item) → length v.bytes < 2 ^ 64 → HoldsItem v (list_of (before ++ x ∷ after))
    → item_at v (length before) ≡ Ok (record v { bytes = encoding x })
held_at v before after x fits holds =
    (item_at-in_order v (record v { bytes = encoding x }) (length before)).1 (
      no_fault v (before ++ x ∷ after) fits holds,
      ap (λ vs. slice_get vs (length before)) (held_views v (before ++ x ∷ after) fits holds)
          ∙ slice_get-middle (λ (y : Item). record v { bytes = encoding y }) before after x,
    )
