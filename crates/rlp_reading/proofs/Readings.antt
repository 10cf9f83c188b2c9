-- Each view gives one value or has one fault.
use Rattle.std.proofs.Common.{◌≡◌, ℕ, zero, suc, ◌^◌, ◌<◌, ◌⊎◌, inl, inr, List, [], ◌∷◌, Bool, length, map, refl, sym, ap, ◌∙◌, Option, Some, None, option_map, Result, Ok, Err}
use Rattle.rlp_format.specs.{Format.Encoding.{Item, AreBytes}, Values.Value.option_item}
use Rattle.rlp_reading.specs.{declared.error.DecoderError.{DecoderError}, Values.ValueReading.{HasOneReading, IsSameFault}, Views.View.{View, item_at, item_count, item_views}}
use Rattle.rlp_reading.specs.declared.error.DecoderError.TheVariants.{RlpIsTooBig, RlpIsTooShort, RlpExpectedToBeList, RlpExpectedToBeData}
use Rattle.rlp_reading.specs.declared.error.DecoderError.TheVariants.{RlpIncorrectListLen, RlpDataLenWithZeroPrefix, RlpListLenWithZeroPrefix}
use Rattle.rlp_reading.specs.declared.error.DecoderError.TheVariants.{RlpInvalidIndirection, RlpInconsistentLengthAndData, RlpInvalidLength, Custom}
use Rattle.rlp_reading.specs.{declared.error.DecoderError.TheVariants.OutOfMemory, Format.Framing.items, Values.StructReading.HoldsOrHasOneFault}
use Rattle.rlp_reading.specs.Form.{Fault, Faults, Form, Gives, Reading, and_then, custom, data_len_with_zero, expected_data, expected_list, fault_of}
use Rattle.rlp_reading.specs.Form.{inconsistent_len, incorrect_list_len, invalid_indirection, invalid_len, is_too_big, is_too_short, items_of, list_len_with_zero}
use Rattle.rlp_reading.specs.Form.{map_value, option_reading, out_of_memory, read_option, reading_at, seen_fault}
use Rattle.rlp_reading.specs.{Form.{byte_array, byte_string, number, option, raw_item, text, truth_value}, Laws.HasOneAnswer}
use Rattle.rlp_reading.proofs.{Lemmas.Numbered.item_at-slice_get, Lemmas.WholeLists.{IsPart, item_parts}, Corollaries.{not_both, one_fault, one_value}}
use Rattle.rlp_reading.proofs.ListLaws.{option_written, same_written}
use Rattle.std.specs.List.{AllByRecursion, slice_get}
use Rattle.std.proofs.Common.{arith}

-- ---- faults

-- each fault is the fault of an error
abbrev fault_some : (f : Fault) → (e : DecoderError) × (fault_of e ≡ f)
fault_some is_too_big = (RlpIsTooBig, refl)
fault_some is_too_short = (RlpIsTooShort, refl)
fault_some expected_list = (RlpExpectedToBeList, refl)
fault_some expected_data = (RlpExpectedToBeData, refl)
fault_some incorrect_list_len = (RlpIncorrectListLen, refl)
fault_some data_len_with_zero = (RlpDataLenWithZeroPrefix, refl)
fault_some list_len_with_zero = (RlpListLenWithZeroPrefix, refl)
fault_some invalid_indirection = (RlpInvalidIndirection, refl)
fault_some inconsistent_len = (RlpInconsistentLengthAndData, refl)
fault_some invalid_len = (RlpInvalidLength, refl)
fault_some (custom text) = (Custom (record { ref_ptr = (0, 0); now = text }), refl)
fault_some out_of_memory = (OutOfMemory, refl)

same_fault : (e f : DecoderError) → fault_of e ≡ fault_of f → IsSameFault e f
same_fault e f same = grind arith

-- ---- one answer

some_answer : {M : Type 0} (r : Result M Fault) → ((m : M) × (r ≡ Ok m)) ⊎ ((e : DecoderError) × (r ≡ Err (fault_of e)))
some_answer (Ok m) = inl (m, refl)
some_answer (Err f) = let h = fault_some f in inr (h.0, ap Err (sym h.1))

-- each view has one answer
pub one_answer : {A : Type 0} (r : Reading A) (v : View) → HasOneAnswer r v
one_answer r v = record {
  some = some_answer (r.read v).result;
  one_value = one_value r v;
  one_fault = λ e f bad also. same_fault e f (one_fault r v e f bad also);
  not_both = not_both r v;
}

-- A type of which each value that contracts see is the value of one item.
pub record IsSeenWhole {A : Type 0} (c : Form A) : Type 0 where
  pub some : (m : c.reading.M) → (x : A) × (c.reading.seen x ≡ m)
  pub written : (x : A) → c.reading.item (c.reading.seen x) ≡ c.item x

module _ {A : Type 0} (c : Form A) (v : View) where
  some_by : (some : (m : c.reading.M) → (x : A) × (c.reading.seen x ≡ m)) (r : Result c.reading.M Fault)
      → ((m : c.reading.M) × (r ≡ Ok m)) ⊎ ((e : DecoderError) × (r ≡ Err (fault_of e)))
      → ((x : A) × (r ≡ Ok (c.reading.seen x))) ⊎ ((e : DecoderError) × (r ≡ Err (fault_of e)))
  some_by some r (inl (m, is)) = let h = some m in inl (h.0, is ∙ ap Ok (sym h.1))
  some_by some r (inr bad) = inr bad

  -- each view gives one value or has one fault
  pub one_reading : IsSeenWhole c → HasOneReading c.item (Gives c.reading v) (Faults c.reading v)
  one_reading whole = record {
    some = some_by whole.some (c.reading.read v).result (some_answer (c.reading.read v).result);
    one_value = λ x y given also. same_written c.reading.seen c.item c.reading.item whole.written x y (one_value c.reading v x y given also);
    one_fault = λ e f bad also. same_fault e f (one_fault c.reading v e f bad also);
    not_both = not_both c.reading v;
  }

-- ---- types whose values contracts see as they are

pub number_whole : (width : ℕ) → IsSeenWhole (number width)
number_whole width = record { some = λ m. (m, refl); written = λ n. refl }

pub truth_whole : IsSeenWhole truth_value
truth_whole = record { some = λ m. (m, refl); written = λ b. refl }

pub bytes_whole : IsSeenWhole (byte_string {B = List ℕ} (λ d. d))
bytes_whole = record { some = λ m. (m, refl); written = λ d. refl }

pub text_whole : IsSeenWhole (text {B = List ℕ} (λ d. d))
text_whole = record { some = λ m. (m, refl); written = λ d. refl }

pub array_whole : (n : ℕ) → IsSeenWhole (byte_array n)
array_whole n = record { some = λ m. (m, refl); written = λ d. refl }

pub raw_whole : IsSeenWhole raw_item
raw_whole = record { some = λ m. (m, refl); written = λ b. refl }

option_some : {A : Type 0} (c : Form A) → IsSeenWhole c → (m : Option c.reading.M) → (o : Option A) × (option_map c.reading.seen o ≡ m)
option_some c whole None = (None, refl)
option_some c whole (Some m) = let x = whole.some m in (Some x.0, ap Some x.1)

pub option_whole : {A : Type 0} (c : Form A) → IsSeenWhole c → IsSeenWhole (option c)
option_whole c whole = record { some = option_some c whole; written = option_written c whole.written }

-- ---- options

lone_by : (v w : View) (r : Result ℕ DecoderError) → map_value (λ (n : ℕ). item_views v) (seen_fault r) ≡ Ok (w ∷ []) → item_views v ≡ w ∷ []
lone_by v w r is = grind arith

got_by : (strict : Bool) (fs : List (List ℕ)) (w : View) (i : ℕ) → AllByRecursion IsPart fs
    → slice_get (map (λ b. record { bytes = b; is_strict = strict }) fs) i ≡ Some w → AreBytes w.bytes × (length w.bytes < 2 ^ 64)
got_by strict [] w i parts is = absurd (let no : ⊥ = cc in no)
got_by strict (f ∷ fs) w zero (part, parts) is = grind arith
got_by strict (f ∷ fs) w (suc i) (part, parts) is = got_by strict fs w i parts is

-- an item by its number of a view that is bytes is bytes
part_at : (v w : View) (i : ℕ) → AreBytes v.bytes → length v.bytes < 2 ^ 64 → item_at v i ≡ Ok w → AreBytes w.bytes × (length w.bytes < 2 ^ 64)
part_at v w i bytes short is = got_by v.is_strict (items v.bytes) w i (item_parts v.bytes bytes short) (item_at-slice_get v w i is)

-- the one item of a view that is bytes is bytes
lone_item : (v w : View) → AreBytes v.bytes → length v.bytes < 2 ^ 64 → items_of v ≡ Ok (w ∷ []) → AreBytes w.bytes × (length w.bytes < 2 ^ 64)
lone_item v w bytes short is =
    got_by v.is_strict (items v.bytes) w 0 (item_parts v.bytes bytes short) (ap (λ vs. slice_get vs 0) (lone_by v w (item_count v) is))

module _ {A : Type 0} (item : A → Item) (r : Reading A)
    (law : (v : View) → AreBytes v.bytes → length v.bytes < 2 ^ 64 → HasOneReading item (Gives r v) (Faults r v)) where
  abbrev read_some : List View → Result (Option r.M) Fault
  read_some vs = (read_option r.read vs).result

  some_option : (v : View) → AreBytes v.bytes → length v.bytes < 2 ^ 64 → (a : Result (List View) Fault) → items_of v ≡ a
      → ((o : Option A) × (and_then a read_some ≡ Ok (option_map r.seen o))) ⊎ ((e : DecoderError) × (and_then a read_some ≡ Err (fault_of e)))
  some_option v bytes short (Err f) is = let h = fault_some f in inr (h.0, ap Err (sym h.1))
  some_option v bytes short (Ok []) is = inl (None, refl)
  some_option v bytes short (Ok (w ∷ u ∷ vs)) is = inr (RlpIncorrectListLen, refl)
  some_option v bytes short (Ok (w ∷ [])) is = let part = lone_item v w bytes short is in of_item (law w part.0 part.1).some
    where
      of_item : ((x : A) × Gives r w x) ⊎ ((e : DecoderError) × Faults r w e)
          → ((o : Option A) × (map_value Some (r.read w).result ≡ Ok (option_map r.seen o))) ⊎ ((e : DecoderError) × (map_value Some (r.read w).result ≡ Err (fault_of e)))
      of_item (inl (x, given)) = inl (Some x, ap (map_value Some) given)
      of_item (inr (e, bad)) = inr (e, ap (map_value Some) bad)

  some_taken : (a : Result r.M Fault) (x : A) → map_value Some a ≡ Ok (Some (r.seen x)) → a ≡ Ok (r.seen x)
  some_taken a x is = grind arith

  alike_options : (v : View) → AreBytes v.bytes → length v.bytes < 2 ^ 64 → (a : Result (List View) Fault) → items_of v ≡ a → (o u : Option A)
      → and_then a read_some ≡ Ok (option_map r.seen o) → and_then a read_some ≡ Ok (option_map r.seen u) → option_item item o ≡ option_item item u
  alike_options v bytes short a is None None given also = refl
  alike_options v bytes short a is None (Some y) given also = absurd (let same = sym given ∙ also in let no : ⊥ = cc in no)
  alike_options v bytes short a is (Some x) None given also = absurd (let same = sym given ∙ also in let no : ⊥ = cc in no)
  alike_options v bytes short (Ok (w ∷ [])) is (Some x) (Some y) given also =
      let part = lone_item v w bytes short is in
      grind (arith, lone_item, some_taken)
  alike_options v bytes short a is (Some x) (Some y) given also = absurd (let no : ⊥ = cc in no)

  -- options of a type that gives one value or has one fault do so too
  pub option_one : (v : View) → AreBytes v.bytes → length v.bytes < 2 ^ 64
      → HasOneReading (option_item item) (Gives (option_reading r) v) (Faults (option_reading r) v)
  option_one v bytes short = grind (arith, some_option, alike_options)

  -- ---- items by number

  some_item : (found : Result View DecoderError) → ((w : View) → found ≡ Ok w → AreBytes w.bytes × (length w.bytes < 2 ^ 64))
      → ((x : A) × (and_then (seen_fault found) (λ w. (r.read w).result) ≡ Ok (r.seen x)))
      ⊎ ((e : DecoderError) × (and_then (seen_fault found) (λ w. (r.read w).result) ≡ Err (fault_of e)))
  some_item (Ok w) part = let held = part w refl in (law w held.0 held.1).some
  some_item (Err f) part = inr (f, refl)

  -- an item by its number gives some value or has one fault, if each item gives one value or has one fault
  pub item_one : (v : View) (i : ℕ) → AreBytes v.bytes → length v.bytes < 2 ^ 64
      → HoldsOrHasOneFault ((x : A) × Gives (reading_at i r) v x) (Faults (reading_at i r) v)
  item_one v i bytes short = record {
    some = some_item (item_at v i) (λ w is. part_at v w i bytes short is);
    one_fault = λ e f bad also. same_fault e f (one_fault (reading_at i r) v e f bad also);
    not_both = λ e given. not_both (reading_at i r) v given.0 e given.1;
  }
