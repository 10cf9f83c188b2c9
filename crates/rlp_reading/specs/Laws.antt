-- What codecs promise.
use Rattle.std.specs.{Prelude.{ℕ, ◌≡◌, ◌^◌, ◌<◌, ◌⊎◌, ◌+◌, Bool, true, false, List, [], ◌++◌, length, map, IfOk, Ok}, List.AllByRecursion}
use Rattle.rlp_format.specs.Format.Encoding.{Item, AreBytes, IsSized, encoding}
use Rattle.rlp_reading.specs.{Views.View.{View, Holds, strict_view_of}, declared.error.DecoderError.DecoderError, Values.ValueReading.IsSameFault}
use Rattle.rlp_reading.specs.{Form.{Faults, Form, FieldsForm, FieldsReading, Gives, Reading}, Sums.CasesForm}

-- The view of the bytes, strict or lenient as `is_strict` says.
abbrev pub viewed : Bool → List ℕ → View
viewed is_strict b = record { bytes = b; is_strict = is_strict }

-- The views of the encodings of the items.
abbrev pub views_of : Bool → List Item → List View
views_of is_strict xs = map (λ x. viewed is_strict (encoding x)) xs

-- The view is strict, and a slice can hold the bytes.
pub record IsStrictPart (v : View) : Type 0 where
  pub is : v ≡ strict_view_of v.bytes
  pub held : AreBytes v.bytes
  pub short : length v.bytes < 2 ^ 64

-- A view that holds the item of a value that fits gives the value.
pub record ReadsBack {A : Type 0} (is_strict : Bool) (c : Form A) : Type 0 where
  pub back : (b : List ℕ) (x : A) → length b < 2 ^ 64 → c.Fits x → Holds is_strict b (encoding (c.item x))
      → (c.reading.read (viewed is_strict b)).result ≡ Ok (c.reading.seen x)

-- A view gives only a value that fits and whose item the view holds.
pub record GivesOnly {A : Type 0} (is_strict : Bool) (c : Form A) : Type 0 where
  pub only : (b : List ℕ) (x : A) → AreBytes b → length b < 2 ^ 64 → (c.reading.read (viewed is_strict b)).result ≡ Ok (c.reading.seen x)
      → c.Fits x × Holds is_strict b (encoding (c.item x))

-- If contracts see two values alike and one of the two fits, both fit; and each value has the item that `reading` gives by what contracts see of the value.
pub record IsSeen {A : Type 0} (c : Form A) : Type 0 where
  pub fits : (x y : A) → c.reading.seen x ≡ c.reading.seen y → c.Fits x → c.Fits y
  pub written : (x : A) → c.reading.item (c.reading.seen x) ≡ c.item x

-- Each value that fits is read back, and a strict view gives no other value.
pub record IsLawful {A : Type 0} (c : Form A) : Type 0 where
  pub told : IsSeen c
  pub back : (is_strict : Bool) → ReadsBack is_strict c
  pub exact : GivesOnly true c

-- Each value that fits is read back from a lenient view.
pub record IsReadBack {A : Type 0} (c : Form A) : Type 0 where
  pub told : IsSeen c
  pub back : ReadsBack false c

-- A view has one answer: it gives one value, as contracts see it, or has one fault, and not both.
pub record HasOneAnswer {A : Type 0} (r : Reading A) (v : View) : Type 0 where
  pub some : ((m : r.M) × ((r.read v).result ≡ Ok m)) ⊎ ((e : DecoderError) × Faults r v e)
  pub one_value : (x y : A) → Gives r v x → Gives r v y → r.seen x ≡ r.seen y
  pub one_fault : (e f : DecoderError) → Faults r v e → Faults r v f → IsSameFault e f
  pub not_both : (x : A) (e : DecoderError) → Gives r v x → ¬ Faults r v e

-- The codec with the members of the traits of a type.
abbrev pub form_of : {A : Type 0} → (A → Type 0) → (A → Item) → Reading A → Form A
form_of Fits item reading = record { Fits = Fits; item = item; reading = reading }

-- ---- the same for fields

-- The views of the items of fields that fit give the fields, and leave the views that follow, which must be none if the fields are not fixed.
pub record TakesBack {P : Type 0} (is_strict : Bool) (f : FieldsForm P) : Type 0 where
  pub counted : (p : P) → f.Fits p → f.reading.accepts (length (f.items p)) ≡ true
  pub wide : (p : P) → f.reading.is_fixed ≡ true → length (f.items p) ≡ f.reading.width
  pub back : (p : P) (rest : List View) → (f.reading.is_fixed ≡ false → rest ≡ []) → f.Fits p → AllByRecursion IsSized (f.items p)
      → (f.reading.read (views_of is_strict (f.items p) ++ rest)).result ≡ Ok (f.reading.seen p, rest)

-- Strict views give only fields that fit, and are the views of the items of the fields and then the views that are left.
pub record TakesOnly {P : Type 0} (f : FieldsForm P) : Type 0 where
  pub only : (p : P) (vs rest : List View) → AllByRecursion IsStrictPart vs → (f.reading.read vs).result ≡ Ok (f.reading.seen p, rest)
      → f.Fits p × (vs ≡ views_of true (f.items p) ++ rest)

-- If contracts see fields of two values alike and the fields of one fit, the fields of both fit; and the fields of each value have the items that `reading` gives by
-- what contracts see of the fields.
pub record AreSeen {P : Type 0} (f : FieldsForm P) : Type 0 where
  pub fits : (p q : P) → f.reading.seen p ≡ f.reading.seen q → f.Fits p → f.Fits q
  pub written : (p : P) → f.reading.items (f.reading.seen p) ≡ f.items p

-- The fields are always `width` items.
pub record TakeWidth {P : Type 0} (r : FieldsReading P) : Type 0 where
  pub taken : (vs : List View) → IfOk (r.read vs).result (λ t. length vs ≡ r.width + length t.1)

-- If the fields are all of the items, the number of items is possible.
pub record TakePossible {P : Type 0} (r : FieldsReading P) : Type 0 where
  pub all : (vs : List View) → IfOk (r.read vs).result (λ t. t.1 ≡ [] → r.accepts (length vs) ≡ true)

-- Fields that fit are read back, and strict views give no other fields.
pub record AreLawful {P : Type 0} (f : FieldsForm P) : Type 0 where
  pub told : AreSeen f
  pub wide : f.reading.is_fixed ≡ true → TakeWidth f.reading
  pub possible : TakePossible f.reading
  pub back : (is_strict : Bool) → TakesBack is_strict f
  pub exact : TakesOnly f

-- The fields with the members of the traits of a type.
abbrev pub fields_of : {P : Type 0} → (P → Type 0) → (P → List Item) → FieldsReading P → FieldsForm P
fields_of Fits items reading = record { Fits = Fits; items = items; reading = reading }

-- ---- the same for the types of a sum

-- If contracts see two values alike and one of the two fits, both fit; each value has the tag and the payload that `cases` gives by what contracts see of the value;
-- each payload that fits is read back by the tag; and a tag and a strict view give no other value.
pub record CasesAreLawful {A : Type 0} (cases : CasesForm A) : Type 0 where
  pub fits : (x y : A) → cases.seen x ≡ cases.seen y → cases.Fits x → cases.Fits y
  pub tagged : (x : A) → cases.seen_tag (cases.seen x) ≡ cases.tag x
  pub written : (x : A) → cases.seen_item (cases.seen x) ≡ cases.item x
  pub back : (is_strict : Bool) (b : List ℕ) (x : A) → length b < 2 ^ 64 → cases.Fits x → Holds is_strict b (encoding (cases.item x))
      → (cases.read (cases.tag x) (viewed is_strict b)).result ≡ Ok (cases.seen x)
  pub only : (tag : ℕ) (b : List ℕ) (x : A) → AreBytes b → length b < 2 ^ 64 → (cases.read tag (strict_view_of b)).result ≡ Ok (cases.seen x)
      → cases.Fits x × (tag ≡ cases.tag x) × (b ≡ encoding (cases.item x))
