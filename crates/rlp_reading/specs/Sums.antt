-- Values of several types, which differ in the kind of item or in a tag in front of a payload.
use Rattle.std.specs.Prelude.{ℕ, ⊤, ◌⊎◌, ◌==◌, ◌||◌, Bool, true, false, if◌then◌else◌, List, [], ◌∷◌, Err}
use Rattle.std.proofs.Common.{inl, inr}
use Rattle.rlp_format.specs.{Format.Encoding.{Item, list_of, string, encoding}, Values.Value.{FitsBytes, number_item}}
use Rattle.rlp_reading.specs.{Format.Framing.begins_as_list, Values.Sums.{OnSum, sum_item, sum_tag}, Views.View.{View, strict_view_of}}
use Rattle.rlp_reading.specs.Form.{Answer, Form, Fault, custom, go_on, here, incorrect_list_len, is_too_short, items_of, map_answer, number, string_of, within}

-- The value f of a value on the left, or g of a value on the right.
abbrev pub sum_map : {A B M N : Type 0} → (A → M) → (B → N) → A ⊎ B → M ⊎ N
sum_map f g (inl x) = inl (f x)
sum_map f g (inr y) = inr (g y)

-- ---- lists and strings

-- What `lists` gives for a view that begins as a list, and what `strings` gives for any other view.
abbrev pub read_either : {M N : Type 0} → (View → Answer M Fault) → (View → Answer N Fault) → View → Answer (M ⊎ N) Fault
read_either lists strings v = if begins_as_list v.bytes then map_answer inl (lists v) else map_answer inr (strings v)

-- A value of a first type, written as a list, or of a second type, written as a string.
abbrev pub list_or_string : {A B : Type 0} → Form A → Form B → Form (A ⊎ B)
list_or_string c d = record {
  Fits = OnSum c.Fits d.Fits;
  item = sum_item c.item d.item;
  reading = record {
    M = c.reading.M ⊎ d.reading.M;
    seen = sum_map c.reading.seen d.reading.seen;
    item = sum_item c.reading.item d.reading.item;
    read = read_either c.reading.read d.reading.read;
    takes_memory = c.reading.takes_memory || d.reading.takes_memory;
    Allocates = λ v. ⊤;
  };
}

-- ---- tags

-- How the values of a sum are written and read: which values fit, the tag of a value, the item of the payload, what contracts see of a value, the tag and the item
-- of the payload of a value, by what contracts see of the value, what a tag and a view of a payload give, and whether reading may also fail with `OutOfMemory`.
pub record CasesForm (A : Type 0) : Type 1 where
  pub Fits : A → Type 0
  pub tag : A → ℕ
  pub item : A → Item
  pub M : Type 0
  pub seen : A → M
  pub seen_tag : M → ℕ
  pub seen_item : M → Item
  pub read : ℕ → View → Answer M Fault
  pub takes_memory : Bool

-- The fact, for a test that is false.
abbrev pub Unless : Bool → Type 0 → Type 0
Unless true Fact = ⊥
Unless false Fact = Fact

-- The value of the last type for the tag of the last type, and a custom fault for any other tag.
abbrev pub read_last : {M : Type 0} → List ℕ → ℕ → (View → Answer M Fault) → ℕ → View → Answer M Fault
read_last unknown tag read k v = if k == tag then read v else here (Err (custom unknown))

-- The value of the first type for the tag of the first type, and a value of the other types for any other tag.
abbrev pub read_first : {M N : Type 0} → ℕ → (View → Answer M Fault) → (ℕ → View → Answer N Fault) → ℕ → View → Answer (M ⊎ N) Fault
read_first tag read more k v = if k == tag then map_answer inl (read v) else map_answer inr (more k v)

-- The last type of a sum, with a tag, and with the text of the fault of an unknown tag.
abbrev pub last_case : {A : Type 0} → List ℕ → ℕ → Form A → CasesForm A
last_case unknown tag c = record {
  Fits = c.Fits;
  tag = λ x. tag;
  item = c.item;
  M = c.reading.M;
  seen = c.reading.seen;
  seen_tag = λ m. tag;
  seen_item = c.reading.item;
  read = read_last unknown tag c.reading.read;
  takes_memory = c.reading.takes_memory;
}

-- A type before the other types of a sum, with a tag that no other type has.
abbrev pub and_case : {A B : Type 0} → ℕ → Form A → CasesForm B → CasesForm (A ⊎ B)
and_case tag c more = record {
  Fits = OnSum c.Fits (λ y. Unless (more.tag y == tag) (more.Fits y));
  tag = sum_tag tag more.tag;
  item = sum_item c.item more.item;
  M = c.reading.M ⊎ more.M;
  seen = sum_map c.reading.seen more.seen;
  seen_tag = sum_tag tag more.seen_tag;
  seen_item = sum_item c.reading.item more.seen_item;
  read = read_first tag c.reading.read more.read;
  takes_memory = c.reading.takes_memory || more.takes_memory;
}

-- The bytes of an envelope: the tag, and the encoding of the payload.
abbrev pub envelope : {A : Type 0} → CasesForm A → A → List ℕ
envelope cases x = cases.tag x ∷ encoding (cases.item x)

-- The bytes of the envelope of a value, by what contracts see of the value.
abbrev pub seen_envelope : {A : Type 0} (cases : CasesForm A) → cases.M → List ℕ
seen_envelope cases m = cases.seen_tag m ∷ encoding (cases.seen_item m)

-- What the bytes of an envelope give, with the payload read strictly.
abbrev pub envelope_of : {M : Type 0} → (ℕ → View → Answer M Fault) → List ℕ → Answer M Fault
envelope_of read [] = here (Err is_too_short)
envelope_of read (tag ∷ payload) = read tag (strict_view_of payload)

-- A sum whose values are written as the strings of the envelopes of EIP-2718.
abbrev pub enveloped : {A : Type 0} → CasesForm A → Form A
enveloped cases = record {
  Fits = cases.Fits;
  item = λ x. string (envelope cases x);
  reading = record {
    M = cases.M;
    seen = cases.seen;
    item = λ m. string (seen_envelope cases m);
    read = λ v. go_on (here (string_of v)) (envelope_of cases.read);
    takes_memory = cases.takes_memory;
    Allocates = λ v. ⊤;
  };
}

-- What a list of two items gives: a tag, which is a number of at most `width` bytes, and a payload.
abbrev pub read_tagged : {M : Type 0} → ℕ → (ℕ → View → Answer M Fault) → List View → Answer M Fault
read_tagged width read [] = here (Err incorrect_list_len)
read_tagged width read (first ∷ []) = here (Err incorrect_list_len)
read_tagged width read (first ∷ second ∷ []) = go_on (within 0 ((number width).reading.read first)) (λ tag. within 1 (read tag second))
read_tagged width read (first ∷ second ∷ third ∷ vs) = here (Err incorrect_list_len)

-- A sum whose values are written as lists of a tag, a number of at most `width` bytes, and a payload.
abbrev pub tagged_list : {A : Type 0} → ℕ → CasesForm A → Form A
tagged_list width cases = record {
  Fits = λ x. FitsBytes width (cases.tag x) × cases.Fits x;
  item = λ x. list_of (number_item (cases.tag x) ∷ cases.item x ∷ []);
  reading = record {
    M = cases.M;
    seen = cases.seen;
    item = λ m. list_of (number_item (cases.seen_tag m) ∷ cases.seen_item m ∷ []);
    read = λ v. go_on (here (items_of v)) (read_tagged width cases.read);
    takes_memory = cases.takes_memory;
    Allocates = λ v. ⊤;
  };
}
