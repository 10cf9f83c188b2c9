-- Types that are written as one string.
use Rattle.std.proofs.Common.{◌≡◌, ℕ, ◌^◌, ◌<◌, ◌≤◌, Bool, true, false, List, [], ◌∷◌, length, get_or, ap}
use Rattle.std.proofs.{Common.{◌∙◌, subst, ◌≢◌, Fits, w8, arith, Result, Ok, Err, IsUtf8, pos_of_ne-zero, ◌↔◌}, lemmas.List.Elements.{All-from_recursion, recursion_from_All}}
use Rattle.std.proofs.{lemmas.Bool.{cond-true, cond-false, eqb-false}, lemmas.Str.{IsUtf8-from_is_utf8, is_utf8-from_IsUtf8}}
use Rattle.std.specs.{Bool.⊤, Prelude.codes, Str.is_utf8, Int.Digits.number_from_digits}
use Rattle.rlp_format.specs.{Format.Encoding.{string, AreBytes, big_endian, encoding}, Values.Value.{FitsBytes, bit}}
use Rattle.rlp_format.proofs.{Lemmas.Digits.{big_endian_first, big_endian_value, bytes_held, big_endian_zero, digits_fit, digits_again}, Lemmas.Encodings.{front_sized}}
use Rattle.rlp_reading.specs.{declared.error.DecoderError.DecoderError, Format.Framing.IsString, Views.View.{View, HoldsString, view_string}}
use Rattle.rlp_reading.specs.{Values.ValueReading.{GivesNumber}, Form.{Fault, and_then, custom, expected_data, seen_fault, string_of, number_of}}
use Rattle.rlp_reading.specs.Form.{bit_of, text_of, fixed_of, begins_with_zero, string_type, number, truth_value, byte_string, text, byte_array}
use Rattle.rlp_reading.specs.{Laws.{ReadsBack, GivesOnly, IsLawful}, Kinds.read_kind}
use Rattle.rlp_reading.proofs.{Lemmas.Reading.{front_bytes, back_bytes}, Lemmas.StringsHeld.{few_digits, ReadsHeld, held_begins, held_only, held_reads, string_sized}}

-- ---- the bytes of a string

string_bytes : (b d : List ℕ) → AreBytes b → IsString b d → AreBytes d
unfolding encoding
string_bytes b d bytes is = grind (arith, All-from_recursion, back_bytes, front_bytes, recursion_from_All)

-- a string that a view holds is shorter than 2^64
string_short : (v : View) (d : List ℕ) → length v.bytes < 2 ^ 64 → HoldsString v d → length d < 2 ^ 64
string_short v d fits holds = grind (arith, string_sized, front_sized)

-- ---- a type that is read from one string

-- what a string gives: back what is written, and nothing else
pub record ReadsStrings {A M : Type 0} (Fits : A → Type 0) (bytes : A → List ℕ) (seen : A → M) (written : M → List ℕ) (read : List ℕ → Result M Fault) : Type 0 where
  pub back : (x : A) → Fits x → length (bytes x) < 2 ^ 64 → read (bytes x) ≡ Ok (seen x)
  pub only : (d : List ℕ) (x : A) → AreBytes d → length d < 2 ^ 64 → read d ≡ Ok (seen x) → Fits x × (d ≡ bytes x)
  pub fits : (x y : A) → seen x ≡ seen y → Fits x → Fits y
  pub same : (x : A) → written (seen x) ≡ bytes x

module _ {A M : Type 0} (Fits : A → Type 0) (bytes : A → List ℕ) (seen : A → M) (written : M → List ℕ) (read : List ℕ → Result M Fault) (takes_memory : Bool)
    (law : ReadsStrings Fits bytes seen written read) where
  pub string_back : (is_strict : Bool) → ReadsBack is_strict (string_type Fits bytes seen written read takes_memory)
  string_back is_strict = record {
    back = λ b x fits fit holds.
        ap (λ r. and_then (seen_fault r) read) (held_only (record { bytes = b; is_strict = is_strict }) (bytes x) fits holds)
        ∙ law.back x fit (string_short (record { bytes = b; is_strict = is_strict }) (bytes x) fits holds);
  }

  only_by : (v : View) (x : A) (r : Result (List ℕ) DecoderError) → AreBytes v.bytes → length v.bytes < 2 ^ 64 → ReadsHeld v.is_strict v.bytes r
      → and_then (seen_fault r) read ≡ Ok (seen x) → Fits x × HoldsString v (bytes x)
  only_by v x (Err e) held fits none is = absurd (let no : ⊥ = cc in no)
  only_by v x (Ok d) held fits holds is =
      let h = law.only d x (string_bytes v.bytes d held (held_begins v (string d) holds)) (string_short v d fits holds) is in
      (h.0, subst (HoldsString v) h.1 holds)

  pub string_only : (is_strict : Bool) → GivesOnly is_strict (string_type Fits bytes seen written read takes_memory)
  string_only is_strict = record {
    only = λ b x held fits is.
        only_by (record { bytes = b; is_strict = is_strict }) x (view_string (record { bytes = b; is_strict = is_strict })) held fits
        (held_reads (record { bytes = b; is_strict = is_strict }) held fits) is;
  }

  pub string_lawful : IsLawful (string_type Fits bytes seen written read takes_memory)
  string_lawful = record { told = record { fits = law.fits; written = λ x. ap string (law.same x) }; back = string_back; exact = string_only true }

-- ---- what a test lets through

-- ---- numbers

not_zero : (d : List ℕ) → 0 < get_or d 0 0 → begins_with_zero d ≡ false
not_zero d some = grind arith

again : (d : List ℕ) → AreBytes d → begins_with_zero d ≡ false → big_endian (number_from_digits 256 d) ≡ d
again [] bytes some = big_endian_zero
again (byte ∷ d) bytes some = digits_again byte d bytes (pos_of_ne-zero (eqb-false byte 0 some))

number_back : (width n : ℕ) → FitsBytes width n → number_of width (big_endian n) ≡ Ok n
number_back width n fit =
    grind (arith, few_digits, big_endian_zero, not_zero, big_endian_first, big_endian_value)

pub number_strings : (width : ℕ) → ReadsStrings (FitsBytes width) big_endian (λ n. n) big_endian (number_of width)
number_strings width = grind (arith, number_back, digits_fit, again)

-- ---- truth values

pub truth_strings : ReadsStrings (λ b. ⊤) (λ b. big_endian (bit b)) (λ b. b) (λ b. big_endian (bit b)) (λ d. and_then (number_of 1 d) bit_of)
truth_strings = grind (arith, number_back, digits_fit, again)

-- ---- byte strings and texts

module _ {B : Type 0} (bytes : B → List ℕ) where
  pub byte_strings : ReadsStrings (λ b. ⊤) bytes bytes (λ d. d) (λ d. Ok d)
  byte_strings = grind arith

  pub text_strings : ReadsStrings (λ b. IsUtf8 (bytes b)) bytes bytes (λ d. d) text_of
  text_strings = grind (arith, cond-true, is_utf8-from_IsUtf8, cond-false, IsUtf8, IsUtf8-from_is_utf8)

-- ---- arrays

pub array_strings : (n : ℕ) → ReadsStrings (λ a. length a ≡ n) (λ a. a) (λ a. a) (λ a. a) (fixed_of n)
array_strings n = grind arith

-- ---- for bodies of `decode`

-- digits of at most `width` bytes write a number of this width
pub number_fits : (width : ℕ) (d : List ℕ) → ((i : ℕ) → Fits w8 (get_or d i 0)) → length d ≤ width → FitsBytes width (number_from_digits 256 d)
number_fits width d bytes few = digits_fit width d (bytes_held d bytes) few

-- a view that holds the digits of a number gives the number
pub number_given : (width n : ℕ) (v : View) → length v.bytes < 2 ^ 64 → GivesNumber width v n → and_then (string_of v) (number_of width) ≡ Ok n
number_given width n v fits given = (string_back _ _ _ _ _ false (number_strings width) v.is_strict).back v.bytes n fits given.fits given.begins

-- a number other than 0 and 1 isn't a truth value
pub other_bool : (v : View) (n : ℕ) → and_then (string_of v) (number_of 1) ≡ Ok n → n ≢ 0 → n ≢ 1
    → and_then (string_of v) (λ d. and_then (number_of 1 d) bit_of) ≡ Err (custom (codes "invalid boolean value"))
other_bool v n is none one = grind arith

-- bytes that are a text
pub is_text : (d : List ℕ) → IsUtf8 d → text_of d ≡ Ok d
is_text d valid = cond-true (is_utf8 d) _ _ (is_utf8-from_IsUtf8 d valid)

-- bytes that are no text
pub no_text : (d : List ℕ) → ¬ IsUtf8 d → text_of d ≡ Err expected_data
no_text d bad = grind (arith, IsUtf8-from_is_utf8, cond-false)

pub ruleset texts = (is_text, no_text)

-- ---- the laws

pub number_lawful : (width : ℕ) → IsLawful (number width)
number_lawful width = string_lawful _ _ _ _ _ _ (number_strings width)

pub truth_lawful : IsLawful truth_value
truth_lawful = string_lawful _ _ _ _ _ _ truth_strings

pub bytes_lawful : {B : Type 0} (bytes : B → List ℕ) → IsLawful (byte_string bytes)
bytes_lawful bytes = string_lawful _ _ _ _ _ _ (byte_strings bytes)

pub text_lawful : {B : Type 0} (bytes : B → List ℕ) → IsLawful (text bytes)
text_lawful bytes = string_lawful _ _ _ _ _ _ (text_strings bytes)

pub array_lawful : (n : ℕ) → IsLawful (byte_array n)
array_lawful n = string_lawful _ _ _ _ _ _ (array_strings n)

-- ---- the same for bytes that begin with the encoding

pub number_scalar : (width : ℕ) → GivesOnly false (number width)
number_scalar width = string_only _ _ _ _ _ _ (number_strings width) false

pub truth_scalar : GivesOnly false truth_value
truth_scalar = string_only _ _ _ _ _ _ truth_strings false

pub bytes_scalar : {B : Type 0} (bytes : B → List ℕ) → GivesOnly false (byte_string bytes)
bytes_scalar bytes = string_only _ _ _ _ _ _ (byte_strings bytes) false

pub text_scalar : {B : Type 0} (bytes : B → List ℕ) → GivesOnly false (text bytes)
text_scalar bytes = string_only _ _ _ _ _ _ (text_strings bytes) false

pub array_scalar : (n : ℕ) → GivesOnly false (byte_array n)
array_scalar n = string_only _ _ _ _ _ _ (array_strings n) false

-- ---- types whose values are strings of several kinds, such as a byte that has a meaning or a hash

module _ {A K : Type 0} (Fits : A → Type 0) (bytes : A → List ℕ) (kind : A → K) (kind_of : List ℕ → Result K Fault) where
  -- a value fits exactly if its bytes are a string of its kind
  pub record HaveKinds : Type 0 where
    pub of_kind : (x : A) → Fits x ↔ (kind_of (bytes x) ≡ Ok (kind x))

  pub kinds_read : HaveKinds → ReadsStrings Fits bytes (λ x. (kind x, bytes x)) (λ m. m.1) (read_kind kind_of)
  kinds_read law = grind arith
