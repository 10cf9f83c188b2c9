-- The first item of bytes, by the header that was read.
use Rattle.rlp_format.proofs.{Lemmas.Digits.{bytes_held}, Lemmas.Encodings.{front_sized}}
use Rattle.rlp_reading.proofs.{Lemmas.{Frames.{split_framed, split_unframed}, Numbered.fault-err}, Lemmas.Views.{strict_fault-encoding}}
use Rattle.std.proofs.Common.{◌≡◌, ℕ, ◌-◌, ◌≤◌, List, length, length-take-le, take, drop, None, Some, Ok, Err, true, sym, ap, ◌∙◌, arith, ◌<◌, false}
use Rattle.std.proofs.{Common.{not, ◌==◌, ltb, lt-ltb, le-ltb, [], ◌∷◌, ◌++◌, length-append, subst, ◌+◌, ◌^◌, if◌then◌else◌, append-nil, Result}, lemmas.List.{append_cancel_left}}
use Rattle.std.proofs.{Common.{IfOk, IfErr, IsOkAnd, MatchResult}, lemmas.List.{length-drop, take_rest, drop-take}, lemmas.Bool.{cond-true, cond-false}}
use Rattle.std.specs.Result.{IsErr, IsErrAnd}
use Rattle.rlp_format.specs.Format.Encoding.{AreBytes, encoding, Item, join}
use Rattle.rlp_reading.specs.{declared.error.DecoderError.DecoderError, declared.header.PayloadInfo.PayloadInfo, Views.View.{item_with_place, view_of}}
use Rattle.rlp_reading.specs.Format.Framing.{framing, map_ok, total_len, value, HasHeader, IsFramedItem, frame, is_followed, is_longer, strict_fault}
use Rattle.rlp_reading.specs.Format.Framing.{strict_fault_in, IsFramed, fault, fault_in, begins_as_list, items, IsCanonical}
use Rattle.rlp_reading.specs.Views.View.{View, begins_as_data, data_size, value_length, view_header, view_value, item_by, item_count}
use Rattle.rlp_reading.specs.{declared.error.DecoderError.TheVariants.{RlpIsTooBig, RlpExpectedToBeList, RlpIsTooShort}, Values.RawItem.view_frame}
use Rattle.rlp_reading.proofs.{Lemmas.Frames.{frame_item, Frames, framing_is, framing_reads, encoding_framed, frame_nil}, Lemmas.Texts.value-front}

-- bytes that aren't framed have none
pub front_value_fault : (b : List ℕ) (e : DecoderError) → framing b ≡ Err e → value b ≡ Err e
unfolding value
front_value_fault b e is = ap (map_ok (λ q. take q.value_len (drop q.header_len b))) is

-- a string's length is the one that its header announces
pub size_of_header : (b : List ℕ) (p : PayloadInfo) → true ≡ begins_as_data b → framing b ≡ Ok p → total_len p ≤ length b → p.value_len ≡ data_size b
unfolding value
size_of_header b p kind is within = grind (arith, length-take-le, length-drop, cond-true)

-- and 0 without a header
pub no_size_of_header : (b : List ℕ) (e : DecoderError) → true ≡ begins_as_data b → framing b ≡ Err e → 0 ≡ data_size b
no_size_of_header b e kind is = sym (cond-true (begins_as_data b) _ _ (sym kind) ∙ ap value_length (front_value_fault b e is))

-- the value of a view lies between the ends of its header and of its item
pub view_value_between : (v : View) (p : PayloadInfo) (n : ℕ) → view_header v ≡ Ok p → n ≡ total_len p
    → view_value v ≡ Ok (take (n - p.header_len) (drop p.header_len v.bytes))
unfolding value
view_value_between v p n is end = grind arith

-- a view has a fault where its header has one
pub no_view_value : (v : View) (e : DecoderError) → view_header v ≡ Err e → view_value v ≡ Err e
no_view_value v e is = grind (arith, front_value_fault)

-- ---- the first item of bytes, by the header that was read

-- the bytes of the item
pub front_frame : (b item : List ℕ) (p : PayloadInfo) → framing b ≡ Ok p → item ≡ take (total_len p) b → frame b ≡ Ok item
unfolding frame
front_frame b item p is same = ap (map_ok (λ q. take (total_len q) b)) is ∙ ap Ok (sym same)

-- bytes that aren't framed have no frame
pub front_frame_fault : (b : List ℕ) (e : DecoderError) → framing b ≡ Err e → frame b ≡ Err e
unfolding frame
front_frame_fault b e is = ap (map_ok (λ q. take (total_len q) b)) is

-- the value is the bytes after the header of the item
pub front_value : (b item : List ℕ) (p : PayloadInfo) → framing b ≡ Ok p → item ≡ take (total_len p) b
    → value b ≡ Ok (take (length item - p.header_len) (drop p.header_len item))
unfolding value
front_value b item p is same = grind (arith, take_rest, drop-take)

-- the item without the bytes after it has the same value
pub front_item_value : (b item : List ℕ) (p : PayloadInfo) → AreBytes b → framing b ≡ Ok p → item ≡ take (total_len p) b
    → value item ≡ Ok (take (length item - p.header_len) (drop p.header_len item))
front_item_value b item p bytes is same = ap value same ∙ value-front b p bytes is ∙ front_value b item p is same

-- the item is framed by that header and ends with its value
pub front_item : (b item : List ℕ) (p : PayloadInfo) → HasHeader b p.header_len p.value_len → total_len p ≤ length b → item ≡ take (total_len p) b
    → IsFramedItem item
front_item b item p has within same = subst IsFramedItem (sym same) (frame_item b p.header_len p.value_len has within)

-- the length of the item is the one that its header announces
pub front_ends : (b item : List ℕ) (p : PayloadInfo) → total_len p ≤ length b → item ≡ take (total_len p) b → total_len p ≡ length item
front_ends b item p within same = sym (ap length same ∙ length-take-le (total_len p) b within)

-- ---- the bytes after the item

-- bytes that end with the value have no strict fault
pub whole_header : (b : List ℕ) (p : PayloadInfo) → framing b ≡ Ok p → length b ≤ total_len p → strict_fault b ≡ None
unfolding strict_fault
whole_header b p is ends = ap (strict_fault_in b) is ∙ cond-false (ltb (total_len p) (length b)) _ _ (le-ltb (total_len p) (length b) ends)

pub long_header : (b : List ℕ) (p : PayloadInfo) → framing b ≡ Ok p → total_len p < length b → strict_fault b ≡ Some RlpIsTooBig
unfolding strict_fault
long_header b p is more = ap (strict_fault_in b) is ∙ cond-true (ltb (total_len p) (length b)) _ _ (lt-ltb (total_len p) (length b) more)

-- the same for bytes that are exactly the item
pub whole_front : (b item others : List ℕ) (p : PayloadInfo) → framing b ≡ Ok p → total_len p ≡ length item → b ≡ item ++ others
    → true ≡ (length others == 0) → strict_fault b ≡ None
whole_front b item others p is long whole none = grind (arith, whole_header, length-append)

-- if other bytes follow the item, they have a strict fault
pub long_front : (b item others : List ℕ) (p : PayloadInfo) → framing b ≡ Ok p → total_len p ≡ length item → b ≡ item ++ others
    → false ≡ (length others == 0) → strict_fault b ≡ Some RlpIsTooBig
long_front b item others p is long whole some = grind (arith, long_header, length-append)

-- bytes that aren't framed have one too
pub faulty_front : (b : List ℕ) (e : DecoderError) → framing b ≡ Err e → strict_fault b ≡ Some e
unfolding strict_fault
faulty_front b e is = ap (strict_fault_in b) is

-- whether other bytes follow the item
pub followed_front : (b item others : List ℕ) (p : PayloadInfo) → framing b ≡ Ok p → total_len p ≡ length item → b ≡ item ++ others
    → not (length others == 0) ≡ is_followed b
unfolding is_followed
followed_front b item others p is long whole = grind (arith, length-append)

-- no bytes follow if the bytes aren't framed
pub followed_fault : (b : List ℕ) (e : DecoderError) → framing b ≡ Err e → false ≡ is_followed b
unfolding is_followed
followed_fault b e is = sym (ap (is_longer b) is)

pub ruleset strict_fronts = (whole_front, long_front, whole_header, long_header, faulty_front, followed_front, followed_fault)

-- ---- the strict fault

pub strict_whole : (b : List ℕ) (h n : ℕ) → HasHeader b h n → h + n ≡ length b → strict_fault b ≡ None
unfolding strict_fault
strict_whole b h n has whole = ap (strict_fault_in b) (framing_is b h n has (omega arith)) ∙ cond-false (ltb (h + n) (length b)) _ _ (le-ltb _ _ (omega arith))

pub item_whole : (b : List ℕ) → IsFramedItem b → strict_fault b ≡ None
item_whole b framed = strict_whole b framed.header_len framed.value_len framed.has_header framed.whole

pub strict_followed : (b : List ℕ) (h n : ℕ) → HasHeader b h n → h + n < length b → strict_fault b ≡ Some RlpIsTooBig
unfolding strict_fault
strict_followed b h n has more = ap (strict_fault_in b) (framing_is b h n has (omega arith)) ∙ cond-true (ltb (h + n) (length b)) _ _ (lt-ltb _ _ more)

unframed_by : (b : List ℕ) (r : Result PayloadInfo DecoderError) → Frames b r → ¬ IsFramed b → strict_fault_in b r ≡ Some (fault_in r)
unframed_by b r is none = grind arith

pub strict_unframed : (b : List ℕ) → AreBytes b → ¬ IsFramed b → strict_fault b ≡ Some (fault b)
unfolding strict_fault fault
strict_unframed b bytes none = unframed_by b (framing b) (framing_reads b bytes) none

pub strict_canonical : (b : List ℕ) → length b < 2 ^ 64 → IsCanonical b → strict_fault b ≡ None
strict_canonical b fits (x, is) = strict_fault-encoding x b (front_sized x b [] fits (is ∙ sym (append-nil (encoding x)))) is

-- ---- lenient views

pub lenient_count : (b : List ℕ) → item_count (view_of b) ≡ (if begins_as_list b then Ok (length (items b)) else Err RlpExpectedToBeList)
unfolding item_count
lenient_count b = grind arith

pub lenient_place : (b : List ℕ) (i : ℕ) → item_with_place (view_of b) i
    ≡ (if begins_as_list b then item_by (view_of b) i (framing b) else Err RlpExpectedToBeList)
unfolding item_with_place
lenient_place b i = grind arith

-- ---- items one after another, split off bytes one by one

split_one : (b item rest : List ℕ) (x : Item) (xs : List Item) → length b < 2 ^ 64 → b ≡ join (x ∷ xs) → frame b ≡ Ok item → b ≡ item ++ rest
    → (item ≡ encoding x) × (rest ≡ join xs)
split_one b item rest x xs fits joined front whole =
    let first : frame b ≡ Ok (encoding x) = (encoding_framed x b (front_sized x b (join xs) fits joined) (join xs, joined)).1 in
    grind (arith, append_cancel_left)

module _ {R : Type 0} (item rest : R → List ℕ) (S : R → Type 0) where
  -- the first of joined encodings is split off a lenient view, and the others are left
  pub split_off : (v : View) (b : List ℕ) (r : Result R DecoderError) (x : Item) (xs : List Item) → v ≡ view_of b → length b < 2 ^ 64
      → b ≡ join (x ∷ xs) → IfOk r (λ p. (view_frame v ≡ Ok (item p)) × S p) → IfOk r (λ p. v.bytes ≡ item p ++ rest p)
      → IfErr r (λ e. (view_frame v ≡ Err e) × (view_header v ≡ Err e)) → IsOkAnd r (λ p. (item p ≡ encoding x) × (rest p ≡ join xs))
  split_off v b (Ok p) x xs same fits joined front whole fault = grind (arith, split_one)
  split_off v b (Err e) x xs same fits joined front whole (none, told) =
      let first : frame b ≡ Ok (encoding x) = (encoding_framed x b (front_sized x b (join xs) fits joined) (join xs, joined)).1 in
      grind (arith, encoding_framed, front_sized)

  -- nothing is split off a view of no bytes
  pub split_end : (v : View) (b : List ℕ) (r : Result R DecoderError) → v ≡ view_of b → b ≡ [] → IfOk r (λ p. (view_frame v ≡ Ok (item p)) × S p)
      → IfErr r (λ e. (view_frame v ≡ Err e) × (view_header v ≡ Err e)) → r ≡ Err RlpIsTooShort
  split_end v b r same none front fault = grind (arith, frame_nil)

-- ---- what `?` returns for an error

-- the error is passed on as it is
pub propagated : {T E : Type 0} (P : T → Type 0) (Q : E → Type 0) (r : Result T E) (e : E) → IsErr r × IsErrAnd r (λ f. f ≡ e) → Q e → MatchResult r P Q
propagated P Q r e passed q = grind arith

pub ruleset first_items = (bytes_held, split_framed, split_unframed, front_frame_fault, front_item, front_value, front_value_fault, fault-err)
