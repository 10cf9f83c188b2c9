-- The text and the depth of bytes, by those of their items.
use Rattle.std.proofs.Common.{◌≡◌, ℕ, zero, suc, ◌<◌, ◌≤◌, true, false, List, [], ◌∷◌, ◌++◌, length, take, drop, map, codes, refl, sym, ap, ◌∙◌}
use Rattle.std.proofs.{Common.{arith, Ok, Err, Result, length-take, length-drop, MatchResult, max}, lemmas.List.{map-append, take-append-drop, take-append-le, drop-append-le}}
use Rattle.std.proofs.{Common.{fold, subst, append-nil, ◌-◌, append_assoc, IsTrue, ◌↔◌, length-append}, lemmas.Bool.false≢true}
use Rattle.std.specs.{Bool.⊤, List.AllByRecursion}
use Rattle.std.proofs.{lemmas.Grind.{common_steps}, lemmas.Bool.Decides.{nat_tests}}
use Rattle.rlp_format.specs.Format.Encoding.{Item, string, list, Items, no_items, item_and, items_from, listed, list_of, item_depth, items_depth, encoding}
use Rattle.rlp_format.specs.Format.Encoding.{IsSized, BeginsWith, AreBytes}
use Rattle.rlp_format.proofs.{Lemmas.Encodings.{AllSized, parts_sized, list_written, items_from-listed}}
use Rattle.rlp_reading.specs.{declared.error.DecoderError.DecoderError, declared.header.PayloadInfo.PayloadInfo}
use Rattle.rlp_reading.specs.Format.Framing.{header, framing, frame, value, total_len, split, split_within}
use Rattle.rlp_reading.specs.Format.Framing.{frame_and_more, begins_as_list, payload, payload_in, items, HasHeader, IsFramedItem}
use Rattle.rlp_reading.specs.{Views.ByItems.{by_items_within, by_items}, Views.Text.{text, text_by, separated, error_name}, Views.Depth.{depth, depth_by, framed_depth, greatest}}
use Rattle.hex.specs.Hex.{encode_lower}
use Rattle.rlp_reading.proofs.{Lemmas.Views.{front_kind, list_shape, items_of_list}, Lemmas.Frames.{Frames, frame_item, framing_reads, longer, framing_is, value_is, item_some}}

-- each of the lists has at most n elements
abbrev pub AllWithinLength : ℕ → List (List ℕ) → Type 0
AllWithinLength n fs = AllByRecursion (λ f. length f ≤ n) fs

weaker : (m n : ℕ) (fs : List (List ℕ)) → m ≤ n → AllWithinLength m fs → AllWithinLength n fs
weaker m n [] l a = tt
weaker m n (f ∷ fs) l a = (omega (arith, a.0), weaker m n fs l a.1)

-- a first item is at most as long as the bytes
abbrev pub ShortFront : List ℕ → Result (List ℕ) DecoderError → Type 0
ShortFront p r = MatchResult r (λ f. length f ≤ length p) (λ _. ⊤)

frame_short : (p : List ℕ) → ShortFront p (frame p)
unfolding frame
frame_short p = grind (arith, length-take)

walk_short : (turns : ℕ) (p : List ℕ) (r : Result (List ℕ) DecoderError) → ShortFront p r → ((q : List ℕ) → AllWithinLength (length q) (split_within turns q))
    → AllWithinLength (length p) (frame_and_more (split_within turns) p r)
walk_short turns p r short again = grind (arith, weaker, length-drop)

split_short : (turns : ℕ) (p : List ℕ) → AllWithinLength (length p) (split_within turns p)
split_short zero p = tt
split_short (suc turns) p = walk_short turns p (frame p) (frame_short p) (split_short turns)

-- ---- a list has a header, so its value is shorter than itself

-- the items of b are shorter than b
pub items_short : (n : ℕ) (b : List ℕ) → length b ≤ suc n → AllWithinLength n (items b)
unfolding framing header items payload split value
items_short n b l = grind (arith, nat_tests, common_steps, weaker, split_short, length-take)

-- an empty slice has no items
pub items_nil : items [] ≡ []
unfolding items split payload
items_nil = refl

-- ---- a function of bytes that is defined by its values at their items

map_agree : {A : Type 0} (f g : List ℕ → A) (n : ℕ) (fs : List (List ℕ)) → ((b : List ℕ) → length b ≤ n → f b ≡ g b) → AllWithinLength n fs
    → map f fs ≡ map g fs
map_agree f g n [] same a = refl
map_agree f g n (b ∷ fs) same a = grind (arith, map_agree f g n fs same a.1)

module _ (A : Type 0) (none : A) (step : (List ℕ → A) → List ℕ → A)
    (same_items : (f g : List ℕ → A) (b : List ℕ) → map f (items b) ≡ map g (items b) → step f b ≡ step g b) where
  abbrev within : ℕ → List ℕ → A
  within = by_items_within none step

  by_short : (f g : List ℕ → A) (b : List ℕ) → ((n : ℕ) → length b ≡ suc n → (q : List ℕ) → length q ≤ n → f q ≡ g q) → step f b ≡ step g b
  by_short f g [] same = same_items f g [] (ap (map f) items_nil ∙ sym (ap (map g) items_nil))
  by_short f g (first ∷ rest) same =
      same_items f g (first ∷ rest) (map_agree f g (length rest) (items (first ∷ rest)) (same (length rest) refl)
      (items_short (length rest) (first ∷ rest) (omega arith)))

  enough : (m n : ℕ) (b : List ℕ) → length b ≤ m → length b ≤ n → within (suc m) b ≡ within (suc n) b
  enough zero zero b l k = refl
  enough zero (suc n) b l k = by_short (within zero) (within (suc n)) b (λ j e. absurd (omega arith))
  enough (suc m) zero b l k = by_short (within (suc m)) (within zero) b (λ j e. absurd (omega arith))
  enough (suc m) (suc n) b l k = by_short (within (suc m)) (within (suc n)) b (λ j e q s. enough m n q (omega arith) (omega arith))

  by_items_step : (f : List ℕ → A) → ((b : List ℕ) → f b ≡ by_items none step b) → (b : List ℕ) → f b ≡ step f b
  by_items_step f is b = grind (arith, by_short, enough)

text_step_same : (f g : List ℕ → List ℕ) (b : List ℕ) → map f (items b) ≡ map g (items b) → text_by f b ≡ text_by g b
text_step_same f g b same = grind arith

-- the text of b, by the texts of its items
pub text_is : (b : List ℕ) → text b ≡ text_by text b
unfolding text
text_is b = by_items_step (List ℕ) [] text_by text_step_same text (λ b. refl) b

depth_step_same : (f g : List ℕ → ℕ) (b : List ℕ) → map f (items b) ≡ map g (items b) → depth_by f b ≡ depth_by g b
depth_step_same f g b same = grind arith

-- the depth of b, by the depths of its items
pub depth_is : (b : List ℕ) → depth b ≡ depth_by depth b
unfolding depth
depth_is b = by_items_step ℕ 0 depth_by depth_step_same depth (λ b. refl) b

-- ---- the depth of the bytes of an item is the item's

greatest_from : (a : ℕ) (xs : List Item) → fold max a (map item_depth xs) ≡ max a (items_depth (items_from xs))
greatest_from a [] = omega arith
greatest_from a (x ∷ xs) = grind (arith, greatest_from (max a (item_depth x)) xs)

-- a string has depth 0
pub depth-string : (b : List ℕ) → begins_as_list b ≡ false → depth b ≡ 0
depth-string b kind = grind (arith, depth_is)

list_depth : (xs : List Item) (b : List ℕ) → IsSized (list_of xs) → BeginsWith b (encoding (list_of xs))
    → map depth (map encoding xs) ≡ map item_depth xs → depth b ≡ suc (items_depth (items_from xs))
list_depth xs b h begins same =
    let (is_list, is_value) = list_shape xs b h begins in
    grind (arith, depth_is, items_of_list, greatest_from)

mutual
  -- the depth of an item's encoding is the depth of the item
  pub depth_of_item : (x : Item) (b : List ℕ) → IsSized x → BeginsWith b (encoding x) → depth b ≡ item_depth x
  depth_of_item (string s) b h begins = depth-string b (front_kind (string s) b h begins)
  depth_of_item (list ys) b h begins =
      let e : list_of (listed ys) ≡ list ys = ap list (items_from-listed ys) in
      let sized : IsSized (list_of (listed ys)) = subst IsSized (sym e) h in
      let begun : BeginsWith b (encoding (list_of (listed ys))) = subst (λ x. BeginsWith b (encoding x)) (sym e) begins in
      list_depth (listed ys) b sized begun (depths_of_items ys (parts_sized ys (list_written ys h).small))
      ∙ ap (λ zs. suc (items_depth zs)) (items_from-listed ys)

  depths_of_items : (ys : Items) → AllSized ys → map depth (map encoding (listed ys)) ≡ map item_depth (listed ys)
  depths_of_items no_items h = refl
  depths_of_items (item_and x xs) h =
      let heads : depth (encoding x) ≡ item_depth x = depth_of_item x (encoding x) h.0 ([], sym (append-nil (encoding x))) in
      let tails : map depth (map encoding (listed xs)) ≡ map item_depth (listed xs) = depths_of_items xs h.1 in
      cc

-- ---- the text and the depth of bytes of each kind, by their items one after another

-- the separator before the next item, after these texts
abbrev pub separator_after : List (List ℕ) → List ℕ
separator_after [] = []
separator_after (t ∷ ts) = codes ", "

separated-more : (ts : List (List ℕ)) (t : List ℕ) → separated ts ++ (separator_after ts ++ t) ≡ separated (ts ++ t ∷ [])
separated-more [] t = refl
separated-more (u ∷ []) t = sym (append_assoc u (codes ", ") t)
separated-more (u ∷ v ∷ ts) t = grind (arith, append_assoc, separated-more (v ∷ ts) t)

-- after some text, a comma and a space are written before the next item
pub separator_after-more : (ts : List (List ℕ)) (t : List ℕ) → codes ", " ≡ separator_after (ts ++ t ∷ [])
separator_after-more ts t = grind (arith, common_steps)

separator_after-map : (done : List (List ℕ)) → separator_after (map text done) ≡ separator_after done
separator_after-map done = grind arith

-- one more item is written, after its separator
pub texts-more : (done : List (List ℕ)) (b separator : List ℕ) → separator ≡ separator_after done
    → separated (map text done) ++ (separator ++ text b) ≡ separated (map text (done ++ b ∷ []))
texts-more done b separator e = grind (arith, separator_after-map, separated-more, map-append)

-- ---- the text of each kind of bytes

-- bytes that aren't empty have a first byte
pub length-some : (b : List ℕ) → (b ≡ [] → IsTrue false) → 0 < length b
length-some b other = grind (arith, common_steps)

-- bytes that have a value aren't empty
pub length-framed : (b v : List ℕ) → value b ≡ Ok v → 0 < length b
unfolding value framing header
length-framed b v is = grind arith

-- the text of no bytes
pub text-null : (b : List ℕ) → b ≡ [] → codes "null" ≡ text b
text-null b e = sym (ap text e ∙ text_is [])

-- the text of bytes that have a fault is its name
pub text-fault : (b : List ℕ) (e : DecoderError) → 0 < length b → value b ≡ Err e → error_name e ≡ text b
text-fault b e l is = grind (arith, text_is)

-- the text of a string is its digits in quotes
pub text-string : (b v : List ℕ) → 0 < length b → begins_as_list b ≡ false → value b ≡ Ok v → codes "\"0x" ++ encode_lower v ++ codes "\"" ≡ text b
text-string b v l kind is = grind (arith, text_is)

-- the text of a list is that of its items in brackets
pub text-list : (b v : List ℕ) (done : List (List ℕ)) → 0 < length b → begins_as_list b ≡ true → value b ≡ Ok v → done ≡ items b
    → codes "[" ++ separated (map text done) ++ codes "]" ≡ text b
text-list b v done l kind is all = grind (arith, text_is)

-- ---- an item is shorter than its list

within-middle : (n : ℕ) (done more : List (List ℕ)) (b : List ℕ) → AllWithinLength n (done ++ b ∷ more) → length b ≤ n
within-middle n [] more b a = a.0
within-middle n (c ∷ done) more b a = within-middle n done more b a.1

no_middle : (done more : List (List ℕ)) (b : List ℕ) → done ++ b ∷ more ≡ [] → ⊥
no_middle [] more b e = cc
no_middle (c ∷ done) more b e = cc

-- an item is shorter than the bytes that hold it
pub item-shorter : (b item : List ℕ) (done more : List (List ℕ)) → done ++ item ∷ more ≡ items b → length item < length b
item-shorter [] item done more e = absurd (no_middle done more item (e ∙ items_nil))
item-shorter (first ∷ rest) item done more e =
    let short = within-middle (length rest) done more item
    (subst (AllWithinLength (length rest)) (sym e) (items_short (length rest) (first ∷ rest) (omega arith))) in
    omega (arith, short)

-- ---- the depth of each kind of bytes

-- bytes with a fault have depth 0
pub depth-fault : (b : List ℕ) (e : DecoderError) → value b ≡ Err e → depth b ≡ 0
depth-fault b e is = depth_is b ∙ ap (framed_depth depth b (begins_as_list b)) is

max-grows : (ns : List ℕ) (a : ℕ) → a ≤ fold max a ns
max-grows [] a = omega arith
max-grows (n ∷ ns) a = omega (arith, max-grows ns (max a n))

-- one more item is within the limit too
pub greatest-more : (done : List (List ℕ)) (b : List ℕ) (limit : ℕ) → greatest (map depth done) ≤ limit → depth b ≤ limit
    → greatest (map depth (done ++ b ∷ [])) ≤ limit
greatest-more done b limit l k = grind (arith, nat_tests, common_steps, map-append)

-- ---- whether b is nested within the limit

-- bytes of depth 0 are nested within each limit
pub shallow-other : (b : List ℕ) (limit : ℕ) → depth b ≡ 0 → IsTrue true ↔ (depth b ≤ limit)
shallow-other b limit none = (λ _. omega arith, λ _. refl)

-- a list isn't nested within the limit 0
pub deep-list : (b v : List ℕ) (limit : ℕ) → begins_as_list b ≡ true → value b ≡ Ok v → limit ≡ 0 → IsTrue false ↔ (depth b ≤ limit)
deep-list b v limit kind is none = grind (arith, false≢true, depth_is)

-- a list isn't nested within a limit if one of its items isn't within 1 less
pub deep-item : (b v item : List ℕ) (limit : ℕ) (done more : List (List ℕ)) → begins_as_list b ≡ true → value b ≡ Ok v → done ++ item ∷ more ≡ items b
    → limit - 1 < depth item
    → IsTrue false ↔ (depth b ≤ limit)
deep-item b v item limit done more kind is all deep = grind (arith, common_steps, max-grows, depth_is)

-- a list is nested within a limit if its items are within 1 less
pub shallow-list : (b v : List ℕ) (limit : ℕ) (done : List (List ℕ)) → begins_as_list b ≡ true → value b ≡ Ok v → 0 < limit → done ≡ items b
    → greatest (map depth done) ≤ limit - 1
    → IsTrue true ↔ (depth b ≤ limit)
shallow-list b v limit done kind is some all shallow = grind (arith, depth_is)

-- the items of a list, by its value
pub items-list : (b v : List ℕ) → begins_as_list b ≡ true → value b ≡ Ok v → items b ≡ split v
unfolding items payload
items-list b v kind is = ap split (ap (λ k. payload_in k (value b)) kind ∙ ap (payload_in true) is)

-- one more item is done, of those before the rest
pub done-next : (done : List (List ℕ)) (all : List (List ℕ)) (rest item others : List ℕ) → done ++ split rest ≡ all → split rest ≡ item ∷ split others
    → done ++ item ∷ split others ≡ all
done-next done all rest item others e s = ap (λ bs. done ++ bs) (sym s) ∙ e

-- the items that were walked, and one more
pub done-more : (done : List (List ℕ)) (all : List (List ℕ)) (rest item others : List ℕ) → done ++ split rest ≡ all → split rest ≡ item ∷ split others
    → (done ++ item ∷ []) ++ split others ≡ all
done-more done all rest item others e s = append_assoc done (item ∷ []) (split others) ∙ done-next done all rest item others e s

-- if no item is left, all are done
pub done-all : (done : List (List ℕ)) (all : List (List ℕ)) (rest : List ℕ) → done ++ split rest ≡ all → split rest ≡ [] → done ≡ all
done-all done all rest e s = sym (append-nil done) ∙ ap (λ bs. done ++ bs) (sym s) ∙ e

-- ---- bytes in pieces

-- a cut doesn't change the bytes
pub all-cut : (done rest front after bytes : List ℕ) (n : ℕ) → front ≡ take n rest → after ≡ drop n rest → done ++ rest ≡ bytes
    → (done ++ front) ++ after ≡ bytes
all-cut done rest front after bytes n f a e = grind (arith, append_assoc, take-append-drop)

-- ---- bytes that follow a framed item don't change what is read from it

-- bytes that follow a framed item don't change its header
pub framing-followed : (f more : List ℕ) → IsFramedItem f → framing (f ++ more) ≡ framing f
framing-followed f more is =
    let whole = is.whole in
    framing_is (f ++ more) is.header_len is.value_len (longer more is.has_header) (omega (arith, length-append f more))
    ∙ sym (framing_is f is.header_len is.value_len is.has_header (omega arith))

-- nor its value
pub value-followed : (f more : List ℕ) → IsFramedItem f → value (f ++ more) ≡ value f
value-followed f more is =
    let whole = is.whole in
    let h = is.header_len in
    let n = is.value_len in
    let behind : drop h (f ++ more) ≡ drop h f ++ more = drop-append-le h f more (omega arith) in
    let same : take n (drop h (f ++ more)) ≡ take n (drop h f) = ap (λ b. take n b) behind
    ∙ take-append-le n (drop h f) more (omega (arith, length-drop h f)) in
    value_is (f ++ more) h n (longer more is.has_header) (omega (arith, length-append f more))
    ∙ ap Ok same ∙ sym (value_is f h n is.has_header (omega arith))

-- the first item of a payload has the value that is read from all of the payload
pub value-front : (p : List ℕ) (info : PayloadInfo) → AreBytes p → framing p ≡ Ok info → value (take (total_len info) p) ≡ value p
value-front p info bytes is =
    let parts : HasHeader p info.header_len info.value_len × (total_len info ≤ length p) = subst (Frames p) is (framing_reads p bytes) in
    sym (value-followed (take (total_len info) p) (drop (total_len info) p) (frame_item p info.header_len info.value_len parts.0 parts.1))
    ∙ ap value (take-append-drop (total_len info) p)

-- nor its items
pub items-followed : (f more : List ℕ) → IsFramedItem f → items (f ++ more) ≡ items f
unfolding items payload
items-followed f more is = grind (arith, item_some, value-followed)

-- nor its text
pub text-followed : (f more : List ℕ) → IsFramedItem f → text (f ++ more) ≡ text f
text-followed f more is = grind (arith, text_is, items-followed, value-followed, item_some)

-- nor its depth
pub depth-followed : (f more : List ℕ) → IsFramedItem f → depth (f ++ more) ≡ depth f
depth-followed f more is = grind (arith, depth_is, item_some, items-followed, value-followed)

pub ruleset followed = (framing-followed, value-followed, items-followed, text-followed, depth-followed)

pub ruleset nested = (depth-string, shallow-other, deep-list, deep-item, items-list, done-next)
