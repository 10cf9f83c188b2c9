-- Readings that give no view the fault `OutOfMemory`: each fault is a fault of the bytes.
use Rattle.std.proofs.Common.{◌≡◌, ◌≢◌, ◌==◌, ◌-◌, ℕ, take, drop, zero, suc, Bool, true, false, if◌then◌else◌, List, [], ◌∷◌, length, Option, Some, None, IfSome, Result, Ok, Err, IfErr, ◌⊎◌, inl, inr, ap, subst, arith}
use Rattle.std.specs.{Prelude.{nat_lt, nat_le, codes}, Str.is_utf8, Int.Digits.number_from_digits}
use Rattle.rlp_reading.specs.{declared.error.DecoderError.DecoderError, declared.error.DecoderError.TheVariants.OutOfMemory, declared.header.PayloadInfo.PayloadInfo}
use Rattle.rlp_reading.specs.declared.error.DecoderError.TheVariants.{RlpIsTooBig, RlpIsTooShort, RlpExpectedToBeList, RlpExpectedToBeData}
use Rattle.rlp_reading.specs.declared.error.DecoderError.TheVariants.{RlpIncorrectListLen, RlpDataLenWithZeroPrefix, RlpListLenWithZeroPrefix}
use Rattle.rlp_reading.specs.declared.error.DecoderError.TheVariants.{RlpInvalidIndirection, RlpInconsistentLengthAndData, RlpInvalidLength, Custom}
use Rattle.rlp_reading.specs.Format.Framing.{fault, fault_in, fault_of_some, first_fault, frame, framing, framing_in, header, long_header, long_string, long_value, map_ok}
use Rattle.rlp_reading.specs.Format.Framing.{read_string, rest, short_string, strict_fault, strict_fault_in, strict_list_fault, unless, whole_string}
use Rattle.rlp_reading.specs.{Values.RawItem.view_frame, Views.View.{View, frame_fault, item_at, item_by, item_count, item_with_place, items_fault, list_fault, view_string}}
use Rattle.rlp_reading.specs.Form.{Answer, Fault, Faults, FieldsReading, MayLackMemory, Reading, all_taken, and_then, begins_with_zero, bit_of, boxed_reading, byte_array, byte_string, fault_of, fixed_of, group_before, group_fields}
use Rattle.rlp_reading.specs.Form.{if_possible, in_list, items_of, list_of_views, list_reading, map_fault, map_value, no_fields, number, number_of, one_field, option_reading}
use Rattle.rlp_reading.specs.Form.{most_groups, optional_fields, out_of_memory, raw_item, raw_of, read_each, read_option, reading_at, seen_fault, string_of, struct_reading}
use Rattle.rlp_reading.specs.Form.{take_all, take_each, take_item, text, text_of, truth_value}
use Rattle.rlp_reading.specs.Form.{custom, expected_data, incorrect_list_len, invalid_indirection, is_too_big, is_too_short}
use Rattle.rlp_reading.specs.OwnFaults.{HasOwnFaults, HaveOwnFaults}

-- ---- errors of views

abbrev IsOwn : DecoderError → Type 0
IsOwn e = e ≢ OutOfMemory

too_big : IsOwn RlpIsTooBig
too_big same = let no : ⊥ = cc in no

too_short : IsOwn RlpIsTooShort
too_short same = let no : ⊥ = cc in no

no_list : IsOwn RlpExpectedToBeList
no_list same = let no : ⊥ = cc in no

no_data : IsOwn RlpExpectedToBeData
no_data same = let no : ⊥ = cc in no

zero_len : IsOwn RlpDataLenWithZeroPrefix
zero_len same = let no : ⊥ = cc in no

zero_list_len : IsOwn RlpListLenWithZeroPrefix
zero_list_len same = let no : ⊥ = cc in no

indirect : IsOwn RlpInvalidIndirection
indirect same = let no : ⊥ = cc in no

inconsistent : IsOwn RlpInconsistentLengthAndData
inconsistent same = let no : ⊥ = cc in no

too_long : IsOwn RlpInvalidLength
too_long same = let no : ⊥ = cc in no

long_header_own : (e : DecoderError) (k : ℕ) (b : List ℕ) → IsOwn e → IfErr (long_header e k b) IsOwn
long_header_own e k [] own = too_short
long_header_own e k (second ∷ b) own = grind (arith, too_short, indirect)

header_own : (b : List ℕ) → IfErr (header b) IsOwn
unfolding header
header_own [] = too_short
header_own (first ∷ b) =
    let strings = long_header_own RlpDataLenWithZeroPrefix (first - 0xb7) b zero_len in
    let lists = long_header_own RlpListLenWithZeroPrefix (first - 0xf7) b zero_list_len in
    grind arith

framing_by : (b : List ℕ) (r : Result PayloadInfo DecoderError) → IfErr r IsOwn → IfErr (framing_in b r) IsOwn
framing_by b (Err e) own = own
framing_by b (Ok p) own = grind (arith, too_short)

framing_own : (b : List ℕ) → IfErr (framing b) IsOwn
unfolding framing
framing_own b = framing_by b (header b) (header_own b)

fault_by : (r : Result PayloadInfo DecoderError) → IfErr r IsOwn → IsOwn (fault_in r)
fault_by (Err e) own = own
fault_by (Ok p) own = too_short

fault_own : (b : List ℕ) → IsOwn (fault b)
unfolding fault
fault_own b = fault_by (framing b) (framing_own b)

map_own : {A B : Type 0} (f : A → B) (r : Result A DecoderError) → IfErr r IsOwn → IfErr (map_ok f r) IsOwn
map_own f (Ok x) own = tt
map_own f (Err e) own = own

frame_own : (b : List ℕ) → IfErr (frame b) IsOwn
unfolding frame
frame_own b = map_own _ (framing b) (framing_own b)

strict_by : (b : List ℕ) (r : Result PayloadInfo DecoderError) → IfErr r IsOwn → IfSome (strict_fault_in b r) IsOwn
strict_by b (Err e) own = own
strict_by b (Ok p) own = grind (arith, too_big)

strict_own : (b : List ℕ) → IfSome (strict_fault b) IsOwn
unfolding strict_fault
strict_own b = strict_by b (framing b) (framing_own b)

some_own : (b : List ℕ) → IfSome (fault_of_some b) IsOwn
some_own [] = tt
some_own (byte ∷ b) = fault_own (byte ∷ b)

first_own : (o u : Option DecoderError) → IfSome o IsOwn → IfSome u IsOwn → IfSome (first_fault o u) IsOwn
first_own None u one other = other
first_own (Some e) u one other = one

strict_list_own : (b : List ℕ) → IfSome (strict_list_fault b) IsOwn
unfolding strict_list_fault
strict_list_own b =
    let some = first_own (strict_fault b) (fault_of_some (rest b)) (strict_own b) (some_own (rest b)) in
    grind (arith, no_list)

unless_own : {A : Type 0} (o : Option DecoderError) (r : Result A DecoderError) → IfSome o IsOwn → IfErr r IsOwn → IfErr (unless o r) IsOwn
unless_own None r one other = other
unless_own (Some e) r one other = one

frame_fault_own : (v : View) → IfSome (frame_fault v) IsOwn
frame_fault_own v = grind (arith, strict_own)

view_frame_own : (v : View) → IfErr (view_frame v) IsOwn
view_frame_own v = unless_own (frame_fault v) (frame v.bytes) (frame_fault_own v) (frame_own v.bytes)

list_fault_own : (v : View) → IfSome (list_fault v) IsOwn
list_fault_own v = grind (arith, strict_list_own)

items_fault_own : (v : View) → IfSome (items_fault v) IsOwn
items_fault_own v = grind (arith, list_fault_own, no_list)

item_count_own : (v : View) → IfErr (item_count v) IsOwn
unfolding item_count
item_count_own v = unless_own (items_fault v) (Ok _) (items_fault_own v) tt

item_by_own : (v : View) (i : ℕ) (r : Result PayloadInfo DecoderError) → IfErr r IsOwn → IfErr (item_by v i r) IsOwn
item_by_own v i (Err e) own = own
item_by_own v i (Ok p) own = grind (arith, fault_own)

placed_own : (v : View) (i : ℕ) → IfErr (item_with_place v i) IsOwn
unfolding item_with_place
placed_own v i = unless_own (items_fault v) (item_by v i (framing v.bytes)) (items_fault_own v) (item_by_own v i (framing v.bytes) (framing_own v.bytes))

item_at_own : (v : View) (i : ℕ) → IfErr (item_at v i) IsOwn
item_at_own v i = map_own _ (item_with_place v i) (placed_own v i)

long_value_own : (k n : ℕ) (b : List ℕ) → IfErr (long_value k n b) IsOwn
long_value_own k n b = grind (arith, indirect, too_long, inconsistent)

short_string_own : (n : ℕ) (b : List ℕ) → IfErr (short_string n b) IsOwn
short_string_own n b = grind (arith, inconsistent, indirect)

long_string_own : (k : ℕ) (b : List ℕ) → IfErr (long_string k b) IsOwn
long_string_own k b =
    let value = long_value_own k (number_from_digits 256 (take k b)) (drop k b) in
    grind (arith, inconsistent, indirect)

read_string_own : (b : List ℕ) → IfErr (read_string b) IsOwn
unfolding read_string
read_string_own [] = too_short
read_string_own (first ∷ b) =
    let short = short_string_own (first - 0x80) b in
    let long = long_string_own (first - 0xb7) b in
    grind (arith, no_data)

whole_own : (b : List ℕ) (r : Result (List ℕ) DecoderError) → IfErr r IsOwn → IfErr (whole_string b r) IsOwn
whole_own b (Err e) own = own
whole_own b (Ok d) own = grind (arith, too_big)

view_string_own : (v : View) → IfErr (view_string v) IsOwn
view_string_own v =
    let some = read_string_own v.bytes in
    let whole = whole_own v.bytes (read_string v.bytes) some in
    grind arith

-- ---- faults

abbrev IsOwnFault : Fault → Type 0
IsOwnFault f = f ≢ out_of_memory

lack_of : (e : DecoderError) → fault_of e ≡ out_of_memory → e ≡ OutOfMemory
lack_of e same = grind arith

seen_own : {A : Type 0} (r : Result A DecoderError) → IfErr r IsOwn → IfErr (seen_fault r) IsOwnFault
seen_own (Ok x) own = tt
seen_own (Err e) own = λ same. own (lack_of e same)

string_own : (v : View) → IfErr (string_of v) IsOwnFault
string_own v = seen_own (view_string v) (view_string_own v)

then_own : {A B E : Type 0} (P : E → Type 0) (r : Result A E) (f : A → Result B E) → IfErr r P → ((x : A) → IfErr (f x) P) → IfErr (and_then r f) P
then_own P (Ok x) f own next = next x
then_own P (Err e) f own next = own

mapped_own : {A B E : Type 0} (P : E → Type 0) (f : A → B) (r : Result A E) → IfErr r P → IfErr (map_value f r) P
mapped_own P f (Ok x) own = tt
mapped_own P f (Err e) own = own

items_own : (v : View) → IfErr (items_of v) IsOwnFault
items_own v = mapped_own IsOwnFault _ (seen_fault (item_count v)) (seen_own (item_count v) (item_count_own v))

list_views_own : (v : View) → IfErr (list_of_views v) IsOwnFault
list_views_own v = grind (arith, items_own)

-- ---- values of one string

own_big : IsOwnFault is_too_big
own_big same = let no : ⊥ = cc in no

own_short : IsOwnFault is_too_short
own_short same = let no : ⊥ = cc in no

own_data : IsOwnFault expected_data
own_data same = let no : ⊥ = cc in no

own_indirect : IsOwnFault invalid_indirection
own_indirect same = let no : ⊥ = cc in no

own_len : IsOwnFault incorrect_list_len
own_len same = let no : ⊥ = cc in no

own_custom : (t : List ℕ) → IsOwnFault (custom t)
own_custom t same = let no : ⊥ = cc in no

number_own : (width : ℕ) (d : List ℕ) → IfErr (number_of width d) IsOwnFault
number_own width d = grind (arith, own_big, own_indirect)

bit_own : (n : ℕ) → IfErr (bit_of n) IsOwnFault
bit_own zero = tt
bit_own (suc zero) = tt
bit_own (suc (suc n)) = own_custom _

text_own : (d : List ℕ) → IfErr (text_of d) IsOwnFault
text_own d = grind (arith, own_data)

fixed_own : (n : ℕ) (d : List ℕ) → IfErr (fixed_of n d) IsOwnFault
fixed_own n d = grind (arith, own_short, own_big)

raw_own : (b : List ℕ) → IfErr (raw_of b) IsOwnFault
raw_own b = grind (arith, own_custom)

pub numbers_own : (width : ℕ) → HasOwnFaults (number width).reading
numbers_own width v = then_own IsOwnFault (string_of v) (number_of width) (string_own v) (number_own width)

pub truth_own : HasOwnFaults truth_value.reading
truth_own v = then_own IsOwnFault (string_of v) _ (string_own v) (λ d. then_own IsOwnFault (number_of 1 d) bit_of (number_own 1 d) bit_own)

pub bytes_own : HasOwnFaults (byte_string {B = List ℕ} (λ d. d)).reading
bytes_own v = then_own IsOwnFault (string_of v) _ (string_own v) (λ d. tt)

pub texts_own : HasOwnFaults (text {B = List ℕ} (λ d. d)).reading
texts_own v = then_own IsOwnFault (string_of v) text_of (string_own v) text_own

pub arrays_own : (n : ℕ) → HasOwnFaults (byte_array n).reading
arrays_own n v = then_own IsOwnFault (string_of v) (fixed_of n) (string_own v) (fixed_own n)

pub raw_items_own : HasOwnFaults raw_item.reading
raw_items_own v = then_own IsOwnFault (seen_fault (view_frame v)) raw_of (seen_own (view_frame v) (view_frame_own v)) raw_own

-- ---- values that hold other values

module _ {A : Type 0} (r : Reading A) (own : HasOwnFaults r) where
  option_by : (vs : List View) → IfErr (read_option r.read vs).result IsOwnFault
  option_by [] = tt
  option_by (v ∷ []) = mapped_own IsOwnFault Some (r.read v).result (own v)
  option_by (v ∷ w ∷ vs) = own_len

  pub options_own : HasOwnFaults (option_reading r)
  options_own v = then_own IsOwnFault (items_of v) _ (items_own v) option_by

  each_own : (n : ℕ) (vs : List View) → IfErr (read_each r.read n vs).result IsOwnFault
  each_own n [] = tt
  each_own n (v ∷ vs) =
      then_own IsOwnFault (r.read v).result _ (own v) (λ x. mapped_own IsOwnFault _ (read_each r.read n vs).result (each_own n vs))

  pub lists_own : HasOwnFaults (list_reading {B = List A} (λ xs. xs) r)
  lists_own v = then_own IsOwnFault (list_of_views v) _ (list_views_own v) (λ vs. each_own (length vs) vs)

pub boxes_own : {A B : Type 0} (value : B → A) (r : Reading A) → HasOwnFaults r → HasOwnFaults (boxed_reading value r)
boxes_own value r own = own

pub items_at_own : {A : Type 0} (r : Reading A) → HasOwnFaults r → (i : ℕ) → HasOwnFaults (reading_at i r)
items_at_own r own i v = then_own IsOwnFault (seen_fault (item_at v i)) _ (seen_own (item_at v i) (item_at_own v i)) own

-- ---- fields

abbrev IsOwnPair : List View × Fault → Type 0
IsOwnPair t = t.1 ≢ out_of_memory

pub end_own : (P : Type 0) → HaveOwnFaults (no_fields {P = P})
end_own P vs = tt

told_own : {A E F : Type 0} (P : F → Type 0) (f : E → F) (r : Result A E) → IfErr r (λ e. P (f e)) → IfErr (map_fault f r) P
told_own P f (Ok x) own = tt
told_own P f (Err e) own = own

item_own : {A : Type 0} (r : Reading A) → HasOwnFaults r → (vs : List View) → IfErr (take_item r.read vs).result IsOwnPair
item_own r own [] = own_len
item_own r own (v ∷ vs) = told_own IsOwnPair _ _ (mapped_own IsOwnFault _ (r.read v).result (own v))

pub one_own : {A : Type 0} (r : Reading A) → HasOwnFaults r → HaveOwnFaults (one_field r)
one_own r own vs = item_own r own vs

pub group_own : {A P : Type 0} (value : P → A) (r : FieldsReading A) (more : FieldsReading P) → HaveOwnFaults r → HaveOwnFaults more
    → HaveOwnFaults (group_before value r more)
group_own value r more own others vs =
    then_own IsOwnPair (r.read vs).result _ (own vs) (λ t. mapped_own IsOwnPair _ (more.read t.1).result (others t.1))

pub optional_own : {A P : Type 0} (value : P → Option A) (r : FieldsReading A) → HaveOwnFaults r → HaveOwnFaults (optional_fields value r)
optional_own value r own [] = tt
optional_own value r own (v ∷ vs) = mapped_own IsOwnPair _ (r.read (v ∷ vs)).result (own (v ∷ vs))

turns_own : {A : Type 0} (r : FieldsReading A) → HaveOwnFaults r → (turns : ℕ) (vs : List View) → IfErr (take_each r.read turns vs).result IsOwnPair
turns_own r own zero vs = tt
turns_own r own (suc turns) [] = tt
turns_own r own (suc turns) (v ∷ vs) =
    then_own IsOwnPair (r.read (v ∷ vs)).result _ (own (v ∷ vs)) (λ t. mapped_own IsOwnPair _ (take_each r.read turns t.1).result (turns_own r own turns t.1))

pub groups_own : {A P : Type 0} (values : P → List A) (r : FieldsReading A) → HaveOwnFaults r → HaveOwnFaults (group_fields values r)
groups_own values r own vs = turns_own r own (most_groups r.width (length vs)) vs

left_own : {M : Type 0} (x : M) (vs : List View) → IfErr (all_taken x vs).result IsOwnPair
left_own x [] = tt
left_own x (v ∷ vs) = own_len

unpaired : {M : Type 0} (r : Result (M × List View) (List View × Fault)) → IfErr r IsOwnPair → IfErr (map_fault (λ e. e.1) (map_value (λ m. m.0) r)) IsOwnFault
unpaired (Ok x) own = tt
unpaired (Err e) own = own

possible_own : {M : Type 0} (possible : Bool) (a : Answer M Fault) → IfErr a.result IsOwnFault → IfErr (if_possible possible a).result IsOwnFault
possible_own true a own = own
possible_own false a own = own_len

pub structs_own : {P : Type 0} (r : FieldsReading P) → HaveOwnFaults r → HasOwnFaults (struct_reading r)
structs_own r own v =
    then_own IsOwnFault (items_of v) _ (items_own v) (λ vs.
    possible_own (r.accepts (length vs)) (in_list (length vs) (take_all r.read vs))
    (unpaired (take_all r.read vs).result (then_own IsOwnPair (r.read vs).result _ (own vs) (λ t. left_own t.0 t.1))))

-- ---- for bodies that read a value

-- a type that doesn't allocate is read without `OutOfMemory`
pub told_faults : {A : Type 0} (r : Reading A) (v : View) (a : Result A DecoderError) → HasOwnFaults r → r.takes_memory ≡ false
    → IfErr a (λ e. Faults r v e ⊎ ((e ≡ OutOfMemory) × MayLackMemory r v)) → IfErr a (λ e. Faults r v e × (e ≢ OutOfMemory))
told_faults r v (Ok x) own none fault = tt
told_faults r v (Err e) own none (inl bad) =
    (bad, λ same. subst (λ (r : Result _ Fault). IfErr r IsOwnFault) bad (own v) (ap fault_of same))
told_faults r v (Err e) own none (inr lack) = absurd (let yes = lack.1.0 in let no : ⊥ = cc in no)
