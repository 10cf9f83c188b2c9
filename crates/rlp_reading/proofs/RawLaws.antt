-- Types that are read from the whole first item of a view, and raw items: they are read back, and from nothing else.
use Rattle.std.proofs.Common.{◌≡◌, ◌≤◌, ◌<◌, ◌^◌, ℕ, zero, suc, Bool, true, false, List, [], ◌∷◌, ◌++◌, length, map, refl, sym, ap, ◌∙◌, subst, arith}
use Rattle.std.proofs.Common.{append-nil, Result, Ok, Err, ◌↔◌, ltb, take, drop, codes, length-append, take_all, take-append-drop, le-ltb}
use Rattle.std.proofs.{Common.{lt-ltb, Option, Some, None}, lemmas.Bool.{cond-true, cond-false}, lemmas.Slice.Eq.bytes_eq-Decides}
use Rattle.std.proofs.lemmas.List.Elements.{All-from_recursion, recursion_from_All}
use Rattle.rlp_format.specs.{Format.Encoding.{Item, is_list, string, list, items_from, item_depth, items_depth, BeginsWith, encoding, IsSized, AreBytes}}
use Rattle.rlp_format.proofs.Lemmas.Encodings.{front_sized}
use Rattle.rlp_reading.specs.{declared.error.DecoderError.DecoderError, Format.Framing.{frame, begins_as_list, items, IsCanonicalWithin, unless, read_string, strict_fault}}
use Rattle.rlp_reading.specs.{Views.View.{View, Holds, HoldsItem, strict_view_of, view_string}, Laws.{GivesOnly, IsLawful, ReadsBack, viewed}, FirstItems.item_type, Form.here}
use Rattle.rlp_reading.specs.Values.RawItem.{IsRawItem, deepest_raw_item, item_by, item_within, raw_item_of, view_frame}
use Rattle.rlp_reading.specs.{Views.Depth.depth, Form.{and_then, custom, raw_item, raw_of, seen_fault, Answer, Fault}}
use Rattle.rlp_reading.proofs.{Lemmas.Frames.encoding_framed, Lemmas.Items.item_within-encoding, Lemmas.Views.{strict_fault-encoding}, Lemmas.Texts.{depth_of_item}}
use Rattle.rlp_reading.proofs.{Lemmas.StringsHeld.{held_begins, held_read}, Lemmas.Reading.front_bytes, ListLaws.held_sized, Lemmas.Views.front_kind}

shallow_all : (inside : List ℕ → Item) (most : ℕ) → ((f : List ℕ) → item_depth (inside f) ≤ most) → (fs : List (List ℕ))
    → items_depth (items_from (map inside fs)) ≤ most
shallow_all inside most low [] = omega arith
shallow_all inside most low (f ∷ fs) = grind (arith, shallow_all inside most low fs)

shallow_by : (inside : List ℕ → Item) (most : ℕ) → ((f : List ℕ) → item_depth (inside f) ≤ most) → (b : List ℕ) (r : Result (List ℕ) DecoderError)
    → item_depth (item_by inside b r) ≤ suc most
shallow_by inside most low b (Ok d) = omega arith
shallow_by inside most low b (Err e) =
    let deepest : items_depth (items_from (map inside (items b))) ≤ most = shallow_all inside most low (items b) in omega (arith, deepest)

-- an item that is read is no deeper than the limit
pub shallow_within : (most : ℕ) (b : List ℕ) → item_depth (item_within most b) ≤ most
unfolding item_within
shallow_within zero b = omega arith
shallow_within (suc most) b = shallow_by (item_within most) most (shallow_within most) b (read_string b)

-- a raw item is canonical within its depth
pub raw_is : (b : List ℕ) → IsRawItem b → IsCanonicalWithin deepest_raw_item b
unfolding IsRawItem
raw_is b is = is

-- and bytes that are so are a raw item
pub raw_if : (b : List ℕ) → IsCanonicalWithin deepest_raw_item b → IsRawItem b
unfolding IsRawItem
raw_if b is = is

-- a raw item is the encoding of its item
pub raw_encoding : (b : List ℕ) → length b < 2 ^ 64 → IsRawItem b → encoding (raw_item_of b) ≡ b
raw_encoding b fits is = grind (arith, raw_is, item_within-encoding)

-- an encoding is read as its item, if it is no deeper than a raw item
pub raw_item_of-encoding : (b : List ℕ) (x : Item) → length b < 2 ^ 64 → b ≡ encoding x → item_depth x ≤ deepest_raw_item → raw_item_of b ≡ x
raw_item_of-encoding b x fits is deep = grind (arith, item_within-encoding)

pub ruleset raw_bytes = (raw_is, raw_encoding, raw_item_of-encoding)

-- ---- what a view holds

framed_by : (strict : Bool) (b : List ℕ) (x : Item) → length b < 2 ^ 64 → Holds strict b (encoding x) → BeginsWith b (encoding x)
    → view_frame (record { bytes = b; is_strict = strict }) ≡ Ok (encoding x)
framed_by false b x fits holds (more, is) = (encoding_framed x b (front_sized x b more fits is) (more, is)).1
framed_by true b x fits holds (more, is) =
    let sized : IsSized x = front_sized x b more fits is in
    ap (λ o. unless o (frame b)) (strict_fault-encoding x b sized holds) ∙ (encoding_framed x b sized (more, is)).1

-- the first item of a view is the one that it holds
pub view_frame-held : (v : View) (x : Item) → length v.bytes < 2 ^ 64 → HoldsItem v x → view_frame v ≡ Ok (encoding x)
view_frame-held v x fits holds = framed_by v.is_strict v.bytes x fits holds (held_begins v x holds)

-- ---- rules for bodies

-- the item of bytes that begin as a list is a list
pub list_by : (x : Item) (b : List ℕ) → length b < 2 ^ 64 → b ≡ encoding x → begins_as_list b ≡ is_list x
list_by x b fits is = grind (arith, append-nil, front_kind)

-- the encoding of a string doesn't begin as a list
pub string_kind : (b d : List ℕ) → length b < 2 ^ 64 → b ≡ encoding (string d) → begins_as_list b ≡ false
string_kind b d fits is = list_by (string d) b fits is

-- the item of a raw item that begins as a list
pub raw_list : (b : List ℕ) → length b < 2 ^ 64 → IsRawItem b → begins_as_list b ≡ true → is_list (raw_item_of b) ≡ true
raw_list b fits is begins = sym (list_by (raw_item_of b) b fits (sym (raw_encoding b fits is))) ∙ begins

-- a raw item that begins as a list is the encoding of one
pub raw_is_list : (b : List ℕ) → length b < 2 ^ 64 → IsRawItem b → begins_as_list b ≡ true
    → (x : Item) × (is_list x ≡ true) × (b ≡ encoding x)
raw_is_list b fits is begins = (raw_item_of b, raw_list b fits is begins, sym (raw_encoding b fits is))

-- a raw item that doesn't begin as a list is a string
pub raw_is_string : (b : List ℕ) → length b < 2 ^ 64 → IsRawItem b → begins_as_list b ≡ false → (d : List ℕ) × (b ≡ encoding (string d))
raw_is_string b fits raw begins = by (raw_is b raw)
  where
    by : IsCanonicalWithin deepest_raw_item b → (d : List ℕ) × (b ≡ encoding (string d))
    by (string d, is, deep) = (d, is)
    by (list ys, is, deep) = let kind : begins_as_list b ≡ true = list_by (list ys) b fits is in absurd (let no : ⊥ = cc in no)

-- the string of such a raw item is read
pub raw_string_read : (b : List ℕ) (v : View) (e : DecoderError) → length b < 2 ^ 64 → v ≡ strict_view_of b → IsRawItem b → begins_as_list b ≡ false
    → view_string v ≡ Err e → ⊥
raw_string_read b v e fits strict is begins none =
    let (d, whole) = raw_is_string b fits is begins in
    held_read (strict_view_of b) d e fits whole (subst (λ v. view_string v ≡ Err e) strict none)

-- ---- the first item of a view

-- f is the first bytes of b, and all bytes of b if b has no strict fault.
record IsFront (b f : List ℕ) : Type 0 where
  many : ℕ
  is : f ≡ take many b
  all : strict_fault b ≡ None → length b ≤ many

front_is : (b f : List ℕ) → frame b ≡ Ok f → IsFront b f
unfolding frame strict_fault
front_is b f is = grind arith

held_by : (b f : List ℕ) (o : Option DecoderError) → strict_fault b ≡ o → unless o (frame b) ≡ Ok f → b ≡ f
held_by b f (Some e) faulty is = absurd (let no : ⊥ = cc in no)
held_by b f None faulty is = let front = front_is b f is in sym (front.is ∙ take_all front.many b (front.all faulty))

-- a view holds the bytes of its first item
pub frame_held : (is_strict : Bool) (b f : List ℕ) → view_frame (viewed is_strict b) ≡ Ok f → Holds is_strict b f
frame_held false b f is =
    let front = front_is b f is in
    (drop front.many b, sym (ap (λ s. s ++ drop front.many b) front.is ∙ take-append-drop front.many b))
frame_held true b f is = held_by b f (strict_fault b) refl is

pub held_short : (is_strict : Bool) (b f : List ℕ) → length b < 2 ^ 64 → Holds is_strict b f → length f < 2 ^ 64
held_short is_strict b f fits is = grind (arith, length-append)

-- ---- the bytes of an item

-- canonical bytes are read
pub raw_of-canonical : (b : List ℕ) → length b < 2 ^ 64 → IsCanonicalWithin deepest_raw_item b → raw_of b ≡ Ok b
raw_of-canonical b short canonical =
    grind (arith, append-nil, depth_of_item, bytes_eq-Decides, item_within-encoding)

-- bytes that nest too deep are not read
pub raw_of-deep : (b : List ℕ) → deepest_raw_item < depth b → raw_of b ≡ Err (custom (codes "item nests too deep"))
raw_of-deep b deeper = cond-true (ltb deepest_raw_item (depth b)) _ _ (lt-ltb _ _ deeper)

-- other bytes that are not canonical are not read
pub raw_of-other : (b : List ℕ) → depth b ≤ deepest_raw_item → ¬ IsCanonicalWithin deepest_raw_item b → raw_of b ≡ Err (custom (codes "item is not canonical"))
raw_of-other b low other = grind (arith, bytes_eq-Decides, cond-false, le-ltb, shallow_within)

-- for bodies that read a raw item
pub ruleset raw_readings = (raw_of-canonical, raw_of-deep, raw_of-other)

-- bytes that are given as a raw item are the encoding of an item
pub raw_given : (b x : List ℕ) → raw_of b ≡ Ok x → (x ≡ encoding (raw_item_of x)) × (b ≡ x)
raw_given b x is = grind (arith, bytes_eq-Decides)

-- bytes that a slice can hold fit if and only if they are a raw item
pub raw_fits : (b : List ℕ) → length b < 2 ^ 64 → (b ≡ encoding (raw_item_of b)) ↔ IsRawItem b
raw_fits b short = grind (arith, raw_if, raw_encoding, shallow_within)

-- ---- types that are read from the whole first item of a view are read back, and from nothing else

-- what the bytes of an item give: back what is written, and nothing else
pub record ReadsItems {A M : Type 0} (Fits : A → Type 0) (item : A → Item) (seen : A → M) (written : M → Item) (read : List ℕ → Answer M Fault) : Type 0 where
  pub back : (x : A) → Fits x → IsSized (item x) → (read (encoding (item x))).result ≡ Ok (seen x)
  pub only : (b : List ℕ) (x : A) → AreBytes b → length b < 2 ^ 64 → (read b).result ≡ Ok (seen x) → Fits x × (b ≡ encoding (item x))
  pub fits : (x y : A) → seen x ≡ seen y → Fits x → Fits y
  pub same : (x : A) → written (seen x) ≡ item x

-- the bytes that a view holds are bytes
held_bytes : (is_strict : Bool) (b f : List ℕ) → AreBytes b → Holds is_strict b f → AreBytes f
held_bytes is_strict b f bytes is = grind (arith, All-from_recursion, front_bytes, recursion_from_All)

module _ {A M : Type 0} (Fits : A → Type 0) (item : A → Item) (seen : A → M) (written : M → Item) (read : List ℕ → Answer M Fault) (takes_memory : Bool)
    (law : ReadsItems Fits item seen written read) where
  pub items_back : (is_strict : Bool) → ReadsBack is_strict (item_type Fits item seen written read takes_memory)
  items_back is_strict = record {
    back = λ b x fits fit holds.
        ap (λ r. and_then (seen_fault r) (λ f. (read f).result)) (view_frame-held (viewed is_strict b) (item x) fits holds)
        ∙ law.back x fit (held_sized is_strict b (item x) fits holds);
  }

  items_only_by : (is_strict : Bool) (b : List ℕ) (x : A) (r : Result (List ℕ) DecoderError) → AreBytes b → length b < 2 ^ 64 → view_frame (viewed is_strict b) ≡ r
      → and_then (seen_fault r) (λ f. (read f).result) ≡ Ok (seen x) → Fits x × Holds is_strict b (encoding (item x))
  items_only_by is_strict b x (Err e) bytes fits framed is = absurd (let no : ⊥ = cc in no)
  items_only_by is_strict b x (Ok f) bytes fits framed is =
      let holds = frame_held is_strict b f framed in
      grind (arith, frame_held, held_bytes, held_short)

  pub items_only : (is_strict : Bool) → GivesOnly is_strict (item_type Fits item seen written read takes_memory)
  items_only is_strict = record { only = λ b x bytes fits is. items_only_by is_strict b x (view_frame (viewed is_strict b)) bytes fits refl is }

  pub items_lawful : IsLawful (item_type Fits item seen written read takes_memory)
  items_lawful = record { told = record { fits = law.fits; written = law.same }; back = items_back; exact = items_only true }

-- ---- raw items

raw_items : ReadsItems (λ b. b ≡ encoding (raw_item_of b)) raw_item_of (λ b. b) raw_item_of (λ b. here (raw_of b))
raw_items = grind (arith, raw_of-canonical, raw_given, shallow_within)

pub raw_back : (is_strict : Bool) → ReadsBack is_strict raw_item
raw_back is_strict = record { back = (items_back _ _ _ _ _ true raw_items is_strict).back }

pub raw_only : (is_strict : Bool) → GivesOnly is_strict raw_item
raw_only is_strict = record { only = (items_only _ _ _ _ _ true raw_items is_strict).only }

pub raw_lawful : IsLawful raw_item
raw_lawful = record { told = record { fits = raw_items.fits; written = raw_items.same }; back = raw_back; exact = raw_only true }
