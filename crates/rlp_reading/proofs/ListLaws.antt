-- Types that are written as lists.
use Rattle.std.proofs.Common.{◌≡◌, ℕ, ◌^◌, ◌<◌, Bool, true, false, List, [], ◌∷◌, ◌++◌, length, map, refl, sym, ap, ◌∙◌, subst}
use Rattle.std.proofs.Common.{arith, Result, Ok, Err, Option, None, Some, option_map, IfSome, append-nil, append_assoc, length-append}
use Rattle.std.proofs.{lemmas.List.Elements.{All-from_recursion, recursion_from_All}, lemmas.List.map-append}
use Rattle.std.specs.List.{All, AllByRecursion}
use Rattle.rlp_reading.specs.{declared.error.DecoderError.DecoderError, Format.Framing.{items}, Views.View.{View, Holds, item_count, item_views, items_fault, strict_view_of}}
use Rattle.rlp_reading.specs.Form.{Form, Fault, and_then, held_type, items_of, list_of_views, list_type, map_value, option, read_each, read_option}
use Rattle.rlp_reading.specs.{Form.{fault_of, seen_fault}, Laws.{ReadsBack, GivesOnly, IsLawful, IsReadBack, IsSeen, IsStrictPart, viewed, views_of}}
use Rattle.rlp_format.specs.{Format.Encoding.{Item, list_of, AreBytes, encoding, join, IsSized}, Values.Value.option_item}
use Rattle.rlp_format.proofs.Lemmas.Encodings.{encoding_list, front_sized, small_payload}
use Rattle.rlp_reading.proofs.Lemmas.Numbered.{item_count-fault, item_count-told, counted_told, told_whole}
use Rattle.rlp_reading.proofs.Lemmas.{StringsHeld.held_begins, WholeLists.{IsPart, held_count, held_views, item_parts, whole_list}}

-- ---- the items of a view

pub held_sized : (is_strict : Bool) (b : List ℕ) (x : Item) → length b < 2 ^ 64 → Holds is_strict b (encoding x) → IsSized x
held_sized is_strict b x fits holds = let (more, is) = held_begins (viewed is_strict b) x holds in front_sized x b more fits is

-- the items of a view that holds a list are the views of its items
pub items_held : (is_strict : Bool) (b : List ℕ) (xs : List Item) → length b < 2 ^ 64 → Holds is_strict b (encoding (list_of xs))
    → items_of (viewed is_strict b) ≡ Ok (views_of is_strict xs)
items_held is_strict b xs fits holds =
    ap (λ r. map_value (λ (n : ℕ). item_views (viewed is_strict b)) (seen_fault r)) (held_count (viewed is_strict b) xs fits holds)
    ∙ ap Ok (held_views (viewed is_strict b) xs fits holds)

-- a view that holds a list, when read as a list of values, has the views of the items of the list
pub list_held : (is_strict : Bool) (b : List ℕ) (xs : List Item) → length b < 2 ^ 64 → Holds is_strict b (encoding (list_of xs))
    → list_of_views (viewed is_strict b) ≡ Ok (views_of is_strict xs)
list_held is_strict b xs fits holds = grind (arith, items_held)

-- each item of a list that a view holds is sized
joined_sized : (xs : List Item) → length (join xs) < 2 ^ 64 → AllByRecursion IsSized xs
joined_sized [] small = tt
joined_sized (x ∷ xs) small =
    (omega (arith, length-append (encoding x) (join xs)), joined_sized xs (omega (arith, length-append (encoding x) (join xs))))

pub items_sized : (is_strict : Bool) (b : List ℕ) (xs : List Item) → length b < 2 ^ 64 → Holds is_strict b (encoding (list_of xs))
    → AllByRecursion IsSized xs
items_sized is_strict b xs fits holds = grind (arith, joined_sized, small_payload, encoding_list, held_sized)

-- a view holds its own bytes
pub held_itself : (is_strict : Bool) (b : List ℕ) → Holds is_strict b b
held_itself is_strict b = grind (arith, append-nil)

-- The views are the items of a strict view of b, and b is the encoding of a list if the views are the views of the items of the list.
pub record AreItems (b : List ℕ) (vs : List View) : Type 0 where
  pub parts : AllByRecursion IsStrictPart vs
  pub whole : (xs : List Item) → vs ≡ views_of true xs → b ≡ encoding (list_of xs)

strict_parts : (fs : List (List ℕ)) → AllByRecursion IsPart fs → AllByRecursion IsStrictPart (map strict_view_of fs)
strict_parts [] parts = tt
strict_parts (f ∷ fs) (part, parts) = (record { is = refl; held = part.held; short = part.short }, strict_parts fs parts)

bytes_of_views : (fs : List (List ℕ)) (xs : List Item) → map strict_view_of fs ≡ views_of true xs → fs ≡ map encoding xs
bytes_of_views [] [] same = refl
bytes_of_views (f ∷ fs) (x ∷ xs) same =
    let tails : map strict_view_of fs ≡ views_of true xs = cc in
    grind (arith, bytes_of_views fs xs tails)
bytes_of_views fs xs same = absurd (let no : ⊥ = cc in no)

items_by : (b : List ℕ) (vs : List View) (r : Result ℕ DecoderError) → AreBytes b → length b < 2 ^ 64 → item_count (strict_view_of b) ≡ r
    → map_value (λ (n : ℕ). item_views (strict_view_of b)) (seen_fault r) ≡ Ok vs → AreItems b vs
items_by b vs (Err e) bytes fits count is = absurd (let no : ⊥ = cc in no)
items_by b vs (Ok n) bytes fits count is =
    let same : item_views (strict_view_of b) ≡ vs = cc in
    subst (AreItems b) same (record {
      parts = strict_parts (items b) (item_parts b bytes fits);
      whole = λ xs is. whole_list b xs bytes (told_whole b (counted_told (strict_view_of b) n count)) (bytes_of_views (items b) xs is);
    })

-- the items of a strict view make up the whole list
pub items_only : (b : List ℕ) (vs : List View) → AreBytes b → length b < 2 ^ 64 → items_of (strict_view_of b) ≡ Ok vs → AreItems b vs
items_only b vs bytes fits is = items_by b vs (item_count (strict_view_of b)) bytes fits refl is

-- the value of an answer that goes on with a value
pub record GoesOn {A B E : Type 0} (r : Result A E) (f : A → Result B E) (y : B) : Type 0 where
  pub value : A
  pub is : r ≡ Ok value
  pub then : f value ≡ Ok y

pub goes_on : {A B E : Type 0} (r : Result A E) (f : A → Result B E) (y : B) → and_then r f ≡ Ok y → GoesOn r f y
goes_on r f y is = grind arith

pub record IsMapped {A B E : Type 0} (r : Result A E) (f : A → B) (y : B) : Type 0 where
  pub value : A
  pub is : r ≡ Ok value
  pub then : f value ≡ y

pub is_mapped : {A B E : Type 0} (r : Result A E) (f : A → B) (y : B) → map_value f r ≡ Ok y → IsMapped r f y
is_mapped r f y is = grind arith

-- ---- for bodies of `decode`

-- the items of a view that has items by number
pub items_told : (v : View) → items_fault v ≡ None → items_of v ≡ Ok (item_views v)
items_told v told = ap (λ r. map_value (λ (n : ℕ). item_views v) (seen_fault r)) (item_count-told v told)

-- a view that has no items by number
pub items_faulty : (v : View) (e : DecoderError) → items_fault v ≡ Some e → items_of v ≡ Err (fault_of e)
items_faulty v e fault = ap (λ r. map_value (λ (n : ℕ). item_views v) (seen_fault r)) (item_count-fault v e fault)

-- one more value, after those that were read
pub pushed : {A M : Type 0} (seen : A → M) (xs : List A) (x : A) (r : Result (List M) Fault)
    → map_value (λ ys. map seen xs ++ ys) (map_value (λ ys. seen x ∷ ys) r) ≡ map_value (λ ys. map seen (xs ++ x ∷ []) ++ ys) r
pushed seen xs x r = grind (arith, append_assoc, map-append)

-- all values were read
pub all_pushed : {M : Type 0} (xs : List M) → (let r : Result (List M) Fault = Ok (xs ++ []) in r) ≡ Ok xs
all_pushed xs = ap Ok (append-nil xs)

-- ---- values that contracts see alike

-- values that contracts see alike are written alike
pub same_written : {A M I : Type 0} (seen : A → M) (item : A → I) (of : M → I) → ((x : A) → of (seen x) ≡ item x) → (x y : A) → seen x ≡ seen y → item x ≡ item y
same_written seen item of is x y same = sym (is x) ∙ ap of same ∙ is y

module _ {A M : Type 0} (seen : A → M) (Fits : A → Type 0) (law : (x y : A) → seen x ≡ seen y → Fits x → Fits y) where
  -- if contracts see two options alike and one of the two fits, both fit
  pub options_fit : (o u : Option A) → option_map seen o ≡ option_map seen u → IfSome o Fits → IfSome u Fits
  options_fit o u same fit = grind arith

  each_fits : (xs ys : List A) → map seen xs ≡ map seen ys → AllByRecursion Fits xs → AllByRecursion Fits ys
  each_fits xs [] same all = tt
  each_fits [] (y ∷ ys) same all = absurd (let no : ⊥ = cc in no)
  each_fits (x ∷ xs) (y ∷ ys) same (fit, all) =
      (law x y (let head : seen x ≡ seen y = cc in head) fit, each_fits xs ys (let tail : map seen xs ≡ map seen ys = cc in tail) all)

  -- if contracts see the values of two lists alike and the values of one fit, the values of both fit
  pub lists_fit : (xs ys : List A) → map seen xs ≡ map seen ys → All Fits xs → All Fits ys
  lists_fit xs ys same all = All-from_recursion Fits ys (each_fits xs ys same (recursion_from_All Fits xs all))

-- ---- one item that is read

module _ {A : Type 0} (c : Form A) where
  abbrev read : View → Result c.reading.M Fault
  read v = (c.reading.read v).result

  abbrev read_some : List View → Result (Option c.reading.M) Fault
  read_some vs = (read_option c.reading.read vs).result

  abbrev read_all : ℕ → List View → Result (List c.reading.M) Fault
  read_all n vs = (read_each c.reading.read n vs).result

  abbrev seen : A → c.reading.M
  seen = c.reading.seen

  -- an item of a list is read back
  pub item_back : (is_strict : Bool) → ReadsBack is_strict c → (x : A) → IsSized (c.item x) → c.Fits x
      → (c.reading.read (viewed is_strict (encoding (c.item x)))).result ≡ Ok (c.reading.seen x)
  item_back is_strict law x sized fit = law.back (encoding (c.item x)) x sized fit (held_itself is_strict (encoding (c.item x)))

  -- a strict item that gives a value is its encoding
  pub item_only : GivesOnly true c → (v : View) (x : A) → IsStrictPart v → (c.reading.read v).result ≡ Ok (c.reading.seen x)
      → c.Fits x × (v ≡ viewed true (encoding (c.item x)))
  item_only law v x strict is = grind arith

  abbrev read_whole : List View → Result (List c.reading.M) Fault
  read_whole vs = read_all (length vs) vs

  -- ---- options

  pub option_back : (is_strict : Bool) → ReadsBack is_strict c → ReadsBack is_strict (option c)
  option_back is_strict law = record { back = back_by }
    where
      back_by : (b : List ℕ) (o : Option A) → length b < 2 ^ 64 → IfSome o c.Fits → Holds is_strict b (encoding (option_item c.item o))
          → and_then (items_of (viewed is_strict b)) read_some ≡ Ok (option_map c.reading.seen o)
      back_by b None fits fit holds = ap (λ r. and_then r read_some) (items_held is_strict b [] fits holds)
      back_by b (Some x) fits fit holds =
          ap (λ r. and_then r read_some) (items_held is_strict b (c.item x ∷ []) fits holds)
          ∙ ap (map_value Some) (item_back is_strict law x (items_sized is_strict b (c.item x ∷ []) fits holds).0 fit)

  option_by : GivesOnly true c → (vs : List View) (o : Option A) → AllByRecursion IsStrictPart vs
      → (read_option c.reading.read vs).result ≡ Ok (option_map c.reading.seen o) → IfSome o c.Fits × ((b : List ℕ) → AreItems b vs → b ≡ encoding (option_item c.item o))
  option_by law [] None parts is = (tt, λ b are. are.whole [] refl)
  option_by law [] (Some x) parts is = absurd (let no : ⊥ = cc in no)
  option_by law (v ∷ []) None parts is = grind (arith, is_mapped)
  option_by law (v ∷ []) (Some x) (part, parts) is =
      let m = is_mapped (read v) Some (Some (seen x)) is in
      let value : m.value ≡ seen x = let same : Some m.value ≡ Some (seen x) = m.then in cc in
      let h = item_only law v x part (m.is ∙ ap Ok value) in
      (h.0, λ b are. are.whole (c.item x ∷ []) (ap (λ w. w ∷ []) h.1))
  option_by law (v ∷ w ∷ vs) o parts is = absurd (let no : ⊥ = cc in no)

  pub option_only : GivesOnly true c → GivesOnly true (option c)
  option_only law = record {
    only = λ b o bytes fits is.
        let g = goes_on (items_of (strict_view_of b)) read_some (option_map seen o) is in
        let are = items_only b g.value bytes fits g.is in
        let h = option_by law g.value o are.parts g.then in
        (h.0, h.1 b are);
  }

  pub option_written : ((x : A) → c.reading.item (c.reading.seen x) ≡ c.item x) → (o : Option A)
      → option_item c.reading.item (option_map c.reading.seen o) ≡ option_item c.item o
  option_written written o = grind arith

  pub option_read_back : IsReadBack c → IsReadBack (option c)
  option_read_back law = grind (arith, option_back, options_fit, option_written)

  pub option_lawful : IsLawful c → IsLawful (option c)
  option_lawful law = grind (arith, option_back, option_only, options_fit, option_written)

  -- ---- lists of values

  each_back : (is_strict : Bool) → ReadsBack is_strict c → (n : ℕ) (xs : List A) → AllByRecursion c.Fits xs → AllByRecursion IsSized (map c.item xs)
      → (read_each c.reading.read n (views_of is_strict (map c.item xs))).result ≡ Ok (map c.reading.seen xs)
  each_back is_strict law n [] all sized = refl
  each_back is_strict law n (x ∷ xs) (fit, all) (one, sized) =
      grind (arith, item_back, each_back is_strict law n xs all sized)

  -- what is known of others goes on with one more
  each_more : GivesOnly true c → (n : ℕ) (v : View) (vs : List View) (xs : List A) → IsStrictPart v
      → ((ys : List A) → (read_each c.reading.read n vs).result ≡ Ok (map c.reading.seen ys) → AllByRecursion c.Fits ys × (vs ≡ views_of true (map c.item ys)))
      → (y : c.reading.M) (ys : List c.reading.M) → (c.reading.read v).result ≡ Ok y → (read_each c.reading.read n vs).result ≡ Ok ys → y ∷ ys ≡ map c.reading.seen xs
      → AllByRecursion c.Fits xs × (v ∷ vs ≡ views_of true (map c.item xs))
  each_more law n v vs [] part known y ys one others same = absurd (let no : ⊥ = cc in no)
  each_more law n v vs (x ∷ xs) part known y ys one others same =
      let head : y ≡ seen x = cc in
      let h = item_only law v x part (one ∙ ap Ok head) in
      grind (arith, item_only)

  each_only : GivesOnly true c → (n : ℕ) (vs : List View) (xs : List A) → AllByRecursion IsStrictPart vs
      → (read_each c.reading.read n vs).result ≡ Ok (map c.reading.seen xs) → AllByRecursion c.Fits xs × (vs ≡ views_of true (map c.item xs))
  each_only law n [] [] parts is = (tt, refl)
  each_only law n [] (x ∷ xs) parts is = absurd (let no : ⊥ = cc in no)
  each_only law n (v ∷ vs) xs (part, parts) is =
      let g = goes_on (read v) (λ y. map_value (λ ys. y ∷ ys) (read_all n vs)) (map seen xs) is in
      let m = is_mapped (read_all n vs) (λ (ys : List c.reading.M). g.value ∷ ys) (map seen xs) g.then in
      each_more law n v vs xs part (λ ys is. each_only law n vs ys parts is) g.value m.value g.is m.is m.then

  each_written : IsSeen c → (xs : List A) → map c.reading.item (map c.reading.seen xs) ≡ map c.item xs
  each_written law [] = refl
  each_written law (x ∷ xs) = let one = law.written x in let more = each_written law xs in cc

  -- if contracts see the values of two lists alike and the values of one fit, the values of both fit and have the same items
  pub each_told : IsSeen c → (xs ys : List A) → map c.reading.seen xs ≡ map c.reading.seen ys → All c.Fits xs → All c.Fits ys × (map c.item ys ≡ map c.item xs)
  each_told law xs ys same all =
      (lists_fit seen c.Fits law.fits xs ys same all, same_written (map seen) (map c.item) (map c.reading.item) (each_written law) ys xs (sym same))

  module _ {B : Type 0} (values : B → List A) where
    pub list_told : IsSeen c → IsSeen (list_type values c)
    list_told law = record {
      fits = λ x y. lists_fit seen c.Fits law.fits (values x) (values y);
      written = λ x. ap list_of (each_written law (values x));
    }

    pub list_back : (is_strict : Bool) → ReadsBack is_strict c → ReadsBack is_strict (list_type values c)
    list_back is_strict law = grind (arith, list_held, each_back, recursion_from_All, items_sized)

    pub list_type_only : GivesOnly true c → GivesOnly true (list_type values c)
    list_type_only law = record {
      only = λ b x bytes fits is.
          let g = goes_on (list_of_views (strict_view_of b)) read_whole (map seen (values x)) is in
          let are = items_only b g.value bytes fits g.is in
          let h = each_only law (length g.value) g.value (values x) are.parts g.then in
          (All-from_recursion c.Fits (values x) h.0, are.whole (map c.item (values x)) h.1);
    }

    pub list_lawful : IsLawful c → IsLawful (list_type values c)
    list_lawful law = record { told = list_told law.told; back = λ is_strict. list_back is_strict (law.back is_strict); exact = list_type_only law.exact }

  -- ---- a type that holds a value of another

  module _ {B : Type 0} (value : B → A) (takes_memory : Bool) (Allocates : View → Type 0) where
    pub value_back : (is_strict : Bool) → ReadsBack is_strict c → ReadsBack is_strict (held_type takes_memory Allocates value c)
    value_back is_strict law = record { back = λ b x. law.back b (value x) }

    pub value_only : (is_strict : Bool) → GivesOnly is_strict c → GivesOnly is_strict (held_type takes_memory Allocates value c)
    value_only is_strict law = record { only = λ b x. law.only b (value x) }

    pub value_told : IsSeen c → IsSeen (held_type takes_memory Allocates value c)
    value_told law = record { fits = λ x y. law.fits (value x) (value y); written = λ x. law.written (value x) }

    pub value_read_back : IsReadBack c → IsReadBack (held_type takes_memory Allocates value c)
    value_read_back law = record { told = value_told law.told; back = value_back false law.back }

    pub value_lawful : IsLawful c → IsLawful (held_type takes_memory Allocates value c)
    value_lawful law = record { told = value_told law.told; back = λ is_strict. value_back is_strict (law.back is_strict); exact = value_only true law.exact }

-- a lawful codec is read back
pub read_back : {A : Type 0} {c : Form A} → IsLawful c → IsReadBack c
read_back law = record { told = law.told; back = law.back false }
