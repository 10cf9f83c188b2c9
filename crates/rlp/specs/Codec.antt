-- Codecs of types, from which the traits of a type are made. Each codec is the form of the same name in `rlp_reading`, with the proof of its laws.
use Rattle.std.specs.{Prelude.{ℕ, ◌≡◌, ◌==◌, ◌⊎◌, Bool, true, false, List, Option, Result}, Int.Digits.number_from_digits}
use Rattle.rlp_format.specs.{declared.uint.Uint.Uint, Format.Encoding.{Item, is_list}}
use Rattle.rlp_reading.specs.{Form.{Form, Fault, FieldsForm, FieldsReading, Reading}, Sums.CasesForm, Laws.{AreLawful, CasesAreLawful, IsLawful, IsReadBack, form_of, fields_of}}
use Rattle.rlp_reading.specs.Form as form
use Rattle.rlp_reading.specs.Sums as sums
use Rattle.rlp_reading.proofs.StringLaws.{ReadsStrings, array_lawful, bytes_lawful, number_lawful, string_lawful, text_lawful, truth_lawful}
use Rattle.rlp_reading.proofs.{ListLaws.{list_lawful, option_lawful, read_back, value_lawful}, RawLaws.raw_lawful}
use Rattle.rlp_reading.proofs.FieldLaws.{each_lawful, end_lawful, field_lawful, group_lawful, optional_group_lawful, optional_lawful}
use Rattle.rlp_reading.proofs.{StructLaws.struct_lawful, SumLaws.{and_case_lawful, either_lawful, enveloped_lawful, last_case_lawful, tagged_lawful}, GroupLaws.{groups_lawful}}

-- How the values of a type are written and read: which values fit, the item of a value, what views give, and the laws: each value that is written is read back, and
-- a strict view gives no other value.
pub record Codec (A : Type 0) : Type 1 where
  pub Fits : A → Type 0
  pub item : A → Item
  pub reading : Reading A
  pub reads_back : IsReadBack (form_of Fits item reading)
  pub reads_strictly : IsLawful (form_of Fits item reading)

-- How the fields of a struct are written and read, and the same laws for them.
pub record Fields (P : Type 0) : Type 1 where
  pub Fits : P → Type 0
  pub items : P → List Item
  pub reading : FieldsReading P
  pub laws : AreLawful (fields_of Fits items reading)

-- the codec of a form that is lawful
abbrev pub lawful : {A : Type 0} (c : Form A) → IsLawful c → Codec A
lawful c laws = record { Fits = c.Fits; item = c.item; reading = c.reading; reads_back = read_back laws; reads_strictly = laws }

-- the fields of a form that is lawful
abbrev pub lawful_fields : {P : Type 0} (f : FieldsForm P) → AreLawful f → Fields P
lawful_fields f laws = record { Fits = f.Fits; items = f.items; reading = f.reading; laws = laws }

-- the form of a codec, without the laws
abbrev pub plain : {A : Type 0} → Codec A → Form A
plain c = form_of c.Fits c.item c.reading

-- the form of fields, without the laws
abbrev pub plain_fields : {P : Type 0} → Fields P → FieldsForm P
plain_fields f = fields_of f.Fits f.items f.reading

-- The codec of a type that implements the traits, made from their members; it is for a type with a parameter.
abbrev pub codec_of : {A : Type 0} (Fits : A → Type 0) (item : A → Item) (reading : Reading A) → IsLawful (form_of Fits item reading) → Codec A
codec_of Fits item reading laws = lawful (form_of Fits item reading) laws

-- ---- the provided types

-- A type that is written as one string; `written` is the bytes of a value, by what contracts see of the value, and `read` is what a string gives.
abbrev pub string_type : {A M : Type 0} (Fits : A → Type 0) (bytes : A → List ℕ) (seen : A → M) (written : M → List ℕ) (read : List ℕ → Result M Fault)
    (takes_memory : Bool) → ReadsStrings Fits bytes seen written read → Codec A
string_type Fits bytes seen written read takes_memory law =
    lawful (form.string_type Fits bytes seen written read takes_memory) (string_lawful Fits bytes seen written read takes_memory law)

-- numbers of at most `width` bytes
abbrev pub number : ℕ → Codec ℕ
number width = lawful (form.number width) (number_lawful width)

-- bools
abbrev pub truth_value : Codec Bool
truth_value = lawful form.truth_value truth_lawful

-- a type that contracts see as byte strings
abbrev pub byte_string : {B : Type 0} → (B → List ℕ) → Codec B
byte_string bytes = lawful (form.byte_string bytes) (bytes_lawful bytes)

-- a type that contracts see as texts
abbrev pub text : {B : Type 0} → (B → List ℕ) → Codec B
text bytes = lawful (form.text bytes) (text_lawful bytes)

-- arrays of n bytes
abbrev pub byte_array : ℕ → Codec (List ℕ)
byte_array n = lawful (form.byte_array n) (array_lawful n)

-- items of any kind, as bytes
abbrev pub raw_item : Codec (List ℕ)
raw_item = lawful form.raw_item raw_lawful

-- options of a type
abbrev pub option : {A : Type 0} → Codec A → Codec (Option A)
option c = lawful (form.option (plain c)) (option_lawful (plain c) c.reads_strictly)

-- a type that holds a value of another type, and allocates no memory for the value
abbrev pub newtype : {A B : Type 0} → (B → A) → Codec A → Codec B
newtype value c = lawful (form.newtype value (plain c)) (value_lawful (plain c) value (plain c).reading.takes_memory (plain c).reading.Allocates c.reads_strictly)

-- a type of exactly n bytes
abbrev pub fixed_bytes : {B : Type 0} → ℕ → (B → List ℕ) → Codec B
fixed_bytes n bytes = newtype bytes (byte_array n)

-- a type that holds a value of another type in memory of its own, such as a box
abbrev pub holding : {A B : Type 0} → (B → A) → Codec A → Codec B
holding value c = lawful (form.holding value (plain c)) (value_lawful (plain c) value true (form.BoxAllocates c.reading) c.reads_strictly)

-- a type that contracts see as lists of values
abbrev pub list_type : {A B : Type 0} → (B → List A) → Codec A → Codec B
list_type values c = lawful (form.list_type values (plain c)) (list_lawful (plain c) values c.reads_strictly)

-- numbers that are kept as n bytes
abbrev pub uint : (n : ℕ) → Codec (Uint n)
uint n = newtype (λ (u : Uint n). number_from_digits 256 u.bytes) (number n)

-- ---- structs

-- no more fields
abbrev pub end : {P : Type 0} → Fields P
end = lawful_fields form.end end_lawful

-- a field before other fields
abbrev pub field : {A P : Type 0} → (P → A) → Codec A → Fields P → Fields P
field value c more =
    lawful_fields (form.field value (plain c) (plain_fields more)) (field_lawful value (plain c) (plain_fields more) c.reads_strictly more.laws)

-- The fields of a part of the value before other fields. The first fields are always the same number of items, which `refl` proves.
abbrev pub group : {A P : Type 0} → (P → A) → (f : Fields A) → f.reading.is_fixed ≡ true → Fields P → Fields P
group value f fixed more =
    lawful_fields (form.group value (plain_fields f) (plain_fields more)) (group_lawful value (plain_fields f) (plain_fields more) fixed f.laws more.laws)

-- Groups at the end, each of these fields. A group is always the same number of items, and at least one, which `refl` proves.
abbrev pub groups : {A P : Type 0} → (P → List A) → (f : Fields A) → f.reading.is_fixed ≡ true → (0 == f.reading.width) ≡ false → Fields P
groups values f fixed some =
    lawful_fields (form.groups values (plain_fields f)) (groups_lawful values (plain_fields f) fixed some f.laws)

-- n fields of one type before other fields; `value k` is the first of the n
abbrev pub each : {A P : Type 0} → (ℕ → P → A) → Codec A → Fields P → ℕ → ℕ → Fields P
each value c more k n =
    lawful_fields (form.each value (plain c) (plain_fields more) k n) (each_lawful value (plain c) (plain_fields more) c.reads_strictly more.laws k n)

-- a last field that may be missing
abbrev pub optional : {A P : Type 0} → (P → Option A) → Codec A → Fields P
optional value c = lawful_fields (form.optional value (plain c)) (optional_lawful value (plain c) c.reads_strictly)

-- Last fields that may be missing together. If present, the fields are at least one item, which `refl` proves.
abbrev pub optional_group : {A P : Type 0} → (P → Option A) → (f : Fields A) → f.reading.accepts 0 ≡ false → Fields P
optional_group value f some =
    lawful_fields (form.optional_group value (plain_fields f)) (optional_group_lawful value (plain_fields f) some f.laws)

-- the list of the fields
abbrev pub struct_of : {P : Type 0} → Fields P → Codec P
struct_of f = lawful (form.struct_of (plain_fields f)) (struct_lawful (plain_fields f) f.laws)

-- ---- values of several types

-- the types of a sum, and that they are lawful
pub record Cases (A : Type 0) : Type 1 where
  pub cases : CasesForm A
  pub laws : CasesAreLawful cases

-- A value of the first type is a list, and a value of the second a string; `λ x. refl` proves each.
abbrev pub list_or_string : {A B : Type 0} (c : Codec A) (d : Codec B) → ((x : A) → is_list (c.item x) ≡ true) → ((y : B) → is_list (d.item y) ≡ false)
    → Codec (A ⊎ B)
list_or_string c d lists strings = lawful (sums.list_or_string (plain c) (plain d)) (either_lawful (plain c) (plain d) lists strings c.reads_strictly d.reads_strictly)

-- the last type of a sum; a tag that no type has gives the fault `Custom` with this text
abbrev pub last_case : {A : Type 0} → List ℕ → ℕ → Codec A → Cases A
last_case unknown tag c = record { cases = sums.last_case unknown tag (plain c); laws = last_case_lawful unknown tag (plain c) c.reads_strictly }

-- a type before the other types of a sum
abbrev pub and_case : {A B : Type 0} → ℕ → Codec A → Cases B → Cases (A ⊎ B)
and_case tag c more = record { cases = sums.and_case tag (plain c) more.cases; laws = and_case_lawful tag (plain c) more.cases c.reads_strictly more.laws }

-- a value is written as the string of its tag and the encoding of its payload
abbrev pub enveloped : {A : Type 0} → Cases A → Codec A
enveloped c = lawful (sums.enveloped c.cases) (enveloped_lawful c.cases c.laws)

-- a value is written as the list of its tag, a number of at most `width` bytes, and its payload
abbrev pub tagged_list : {A : Type 0} → ℕ → Cases A → Codec A
tagged_list width c = lawful (sums.tagged_list width c.cases) (tagged_lawful width c.cases c.laws)
