-- How the values of types are written as items and read from views.
use Rattle.std.specs.Prelude.{◌≡◌, ◌≢◌, ⊤, ℕ, zero, suc, ◌+◌, ◌-◌, ◌%◌, ◌==◌, ◌&&◌, ◌||◌, nat_lt, nat_le, Bool, true, false, if◌then◌else◌, All, IfSome, IsOk, IsOkAnd, IsSomeAnd, IsTrue, IsUtf8, ◌⊎◌}
use Rattle.std.specs.{Prelude.{List, [], ◌∷◌, ◌++◌, length, map, codes, Option, Some, None, option_map, Result, Ok, Err}, Str.{bytes_eq, is_utf8}, Int.Digits.{number_from_digits}}
use Rattle.rlp_format.specs.{declared.uint.Uint.Uint, Format.Encoding.{Item, string, list_of, big_endian, encoding}}
use Rattle.rlp_format.specs.Values.Value.{FitsBytes, all_items, bit, items_if, option_item}
use Rattle.rlp_reading.specs.{declared.error.DecoderError.{DecoderError}, declared.error.DecoderError.TheVariants.OutOfMemory, Views.Depth.depth}
use Rattle.rlp_reading.specs.declared.error.DecoderError.TheVariants.{RlpIsTooBig, RlpIsTooShort, RlpExpectedToBeList, RlpExpectedToBeData}
use Rattle.rlp_reading.specs.declared.error.DecoderError.TheVariants.{RlpIncorrectListLen, RlpDataLenWithZeroPrefix, RlpListLenWithZeroPrefix}
use Rattle.rlp_reading.specs.declared.error.DecoderError.TheVariants.{RlpInvalidIndirection, RlpInconsistentLengthAndData, RlpInvalidLength, Custom}
use Rattle.rlp_reading.specs.{Views.View.{View, item_at, item_count, item_views, view_string}, Values.RawItem.{deepest_raw_item, raw_item_of, view_frame}}

-- ---- faults and answers

-- A fault of decoding: a variant of `DecoderError`, with the text of a custom fault as bytes.
pub data Fault : Type 0 where
  is_too_big : Fault
  is_too_short : Fault
  expected_list : Fault
  expected_data : Fault
  incorrect_list_len : Fault
  data_len_with_zero : Fault
  list_len_with_zero : Fault
  invalid_indirection : Fault
  inconsistent_len : Fault
  invalid_len : Fault
  custom : List ℕ → Fault
  out_of_memory : Fault

-- The fault that contracts see of an error.
abbrev pub fault_of : DecoderError → Fault
fault_of RlpIsTooBig = is_too_big
fault_of RlpIsTooShort = is_too_short
fault_of RlpExpectedToBeList = expected_list
fault_of RlpExpectedToBeData = expected_data
fault_of RlpIncorrectListLen = incorrect_list_len
fault_of RlpDataLenWithZeroPrefix = data_len_with_zero
fault_of RlpListLenWithZeroPrefix = list_len_with_zero
fault_of RlpInvalidIndirection = invalid_indirection
fault_of RlpInconsistentLengthAndData = inconsistent_len
fault_of RlpInvalidLength = invalid_len
fault_of (Custom text) = custom text.now
fault_of OutOfMemory = out_of_memory

-- The result, with an error seen as a fault.
abbrev pub seen_fault : {A : Type 0} → Result A DecoderError → Result A Fault
seen_fault (Ok x) = Ok x
seen_fault (Err e) = Err (fault_of e)

-- The result that f gives for the value, or the fault if there is no value.
abbrev pub and_then : {A B E : Type 0} → Result A E → (A → Result B E) → Result B E
and_then (Ok x) f = f x
and_then (Err e) f = Err e

-- The result, with f applied to the value.
abbrev pub map_value : {A B E : Type 0} → (A → B) → Result A E → Result B E
map_value f (Ok x) = Ok (f x)
map_value f (Err e) = Err e

-- The result, with f applied to the fault.
abbrev pub map_fault : {A E F : Type 0} → (E → F) → Result A E → Result A F
map_fault f (Ok x) = Ok x
map_fault f (Err e) = Err (f e)

-- The places that lead to an item: first the place in the outermost list, then the place in the list found there, and so on, each counted from 0.
abbrev pub Path : Type 0
Path = List ℕ

-- What a view gives: a value or a fault, and for a fault the path from the view to the item that has the fault.
pub record Answer (M E : Type 0) : Type 0 where
  pub result : Result M E
  pub path : Path

-- The answer of a view, with any fault as a fault of the view as a whole.
abbrev pub here : {M E : Type 0} → Result M E → Answer M E
here r = record { result = r; path = [] }

-- The answer of a list when item i of the list gives the answer a.
abbrev pub within : {M E : Type 0} → ℕ → Answer M E → Answer M E
within i a = record { result = a.result; path = i ∷ a.path }

-- The answer, with f applied to the value.
abbrev pub map_answer : {A B E : Type 0} → (A → B) → Answer A E → Answer B E
map_answer f a = record { result = map_value f a.result; path = a.path }

-- The path `next x` for a value x, and the path `path` for a fault.
abbrev pub path_by : {A E : Type 0} → Result A E → Path → (A → Path) → Path
path_by (Ok x) path next = next x
path_by (Err e) path next = path

-- The answer that f gives for the value, or the answer a if a has a fault.
abbrev pub go_on : {A B E : Type 0} → Answer A E → (A → Answer B E) → Answer B E
go_on a f = record { result = and_then a.result (λ x. (f x).result); path = path_by a.result a.path (λ x. (f x).path) }

-- The path, unless the result is a value.
abbrev pub path_unless : {A E : Type 0} → Result A E → Path → Option Path
path_unless (Ok x) path = None
path_unless (Err e) path = Some path

-- The path of the fault of an answer, or `None` for a value.
abbrev pub fault_path : {M E : Type 0} → Answer M E → Option Path
fault_path a = path_unless a.result a.path

-- A list of places became the list with the path of the fault of the answer after it. If the answer is a value, the list may be anything.
abbrev pub IsPlaced : {M E : Type 0} → Answer M E → Path → Path → Type 0
IsPlaced a old new = IfSome (fault_path a) (λ path. new ≡ old ++ path)

-- The answer has a fault or not, as the Bool says; and a list of places became the list with the path of the fault after it, or stayed as it was.
abbrev pub IsFound : {M E : Type 0} → Bool → Answer M E → Path → Path → Type 0
IsFound true a old new = IsSomeAnd (fault_path a) (λ path. new ≡ old ++ path)
IsFound false a old new = (fault_path a ≡ None) × (new ≡ old)

-- ---- what views give

-- How the values of a type are read: what contracts see of a value, the item of a value, by what contracts see of the value, what a view gives if no memory is
-- refused, whether reading may also fail with `OutOfMemory`, and if so, for which views.
pub record Reading (A : Type 0) : Type 1 where
  pub M : Type 0
  pub seen : A → M
  pub item : M → Item
  pub read : View → Answer M Fault
  pub takes_memory : Bool
  pub Allocates : View → Type 0

-- The view gives the value.
abbrev pub Gives : {A : Type 0} → Reading A → View → A → Type 0
Gives r v x = (r.read v).result ≡ Ok (r.seen x)

-- The view gives no value, and the error says why.
abbrev pub Faults : {A : Type 0} → Reading A → View → DecoderError → Type 0
Faults r v e = (r.read v).result ≡ Err (fault_of e)

-- Reading the view may fail with `OutOfMemory`.
abbrev pub MayLackMemory : {A : Type 0} → Reading A → View → Type 0
MayLackMemory r v = IsTrue r.takes_memory × r.Allocates v

-- The string of a view, or why the view holds no string.
abbrev pub string_of : View → Result (List ℕ) Fault
string_of v = seen_fault (view_string v)

-- Whether the first byte is zero.
abbrev pub begins_with_zero : List ℕ → Bool
begins_with_zero [] = false
begins_with_zero (byte ∷ bytes) = byte == 0

-- The number that the digits write, if there are at most `width` digits and the first digit is not zero.
abbrev pub number_of : ℕ → List ℕ → Result ℕ Fault
number_of width digits =
    if nat_lt width (length digits) then Err is_too_big
    else if begins_with_zero digits then Err invalid_indirection
    else Ok (number_from_digits 256 digits)

-- The bool that a number stands for: `false` for 0 and `true` for 1.
abbrev pub bit_of : ℕ → Result Bool Fault
bit_of zero = Ok false
bit_of (suc zero) = Ok true
bit_of (suc (suc n)) = Err (custom (codes "invalid boolean value"))

-- The text of the bytes, if the bytes are UTF-8.
abbrev pub text_of : List ℕ → Result (List ℕ) Fault
text_of d = if is_utf8 d then Ok d else Err expected_data

-- The bytes, if there are exactly n bytes.
abbrev pub fixed_of : ℕ → List ℕ → Result (List ℕ) Fault
fixed_of n d = if nat_lt (length d) n then Err is_too_short else if nat_lt n (length d) then Err is_too_big else Ok d

-- The bytes, if the bytes are the encoding of an item that is no deeper than a raw item may be.
abbrev pub raw_of : List ℕ → Result (List ℕ) Fault
raw_of b =
    if nat_lt deepest_raw_item (depth b) then Err (custom (codes "item nests too deep"))
    else if bytes_eq b (encoding (raw_item_of b)) then Ok b
    else Err (custom (codes "item is not canonical"))

-- The items of a view, or why the view is not a list.
abbrev pub items_of : View → Result (List View) Fault
items_of v = map_value (λ n. item_views v) (seen_fault (item_count v))

-- The items of a view that is read as a list of values: a lenient view that is not a list has no items.
abbrev pub list_of_views : View → Result (List View) Fault
list_of_views v = if v.is_strict then items_of v else Ok (item_views v)

-- The option that the items of a list give: `None` for no item, and the value of the item for one item.
abbrev pub read_option : {M : Type 0} → (View → Answer M Fault) → List View → Answer (Option M) Fault
read_option read [] = here (Ok None)
read_option read (v ∷ []) = within 0 (map_answer Some (read v))
read_option read (v ∷ w ∷ vs) = here (Err incorrect_list_len)

-- The list has one view, and reading the view may allocate.
abbrev pub OneAllocates : (View → Type 0) → List View → Type 0
OneAllocates Allocates [] = ⊥
OneAllocates Allocates (v ∷ []) = Allocates v
OneAllocates Allocates (v ∷ w ∷ vs) = ⊥

-- The values that the last items of a list of n items give, in order, or the fault of the first item that has a fault.
abbrev pub read_each : {M : Type 0} → (View → Answer M Fault) → ℕ → List View → Answer (List M) Fault
read_each read n [] = here (Ok [])
read_each read n (v ∷ vs) = go_on (within (n - 1 - length vs) (read v)) (λ x. map_answer (λ xs. x ∷ xs) (read_each read n vs))

-- The reading of options.
abbrev pub option_reading : {A : Type 0} → Reading A → Reading (Option A)
option_reading r = record {
  M = Option r.M;
  seen = option_map r.seen;
  item = option_item r.item;
  read = λ v. go_on (here (items_of v)) (read_option r.read);
  takes_memory = r.takes_memory;
  Allocates = λ v. IsOkAnd (items_of v) (OneAllocates r.Allocates);
}

-- The reading of a type that contracts see as a list of values. A list that has a fault of its own, or no items, takes no memory.
abbrev pub list_reading : {A B : Type 0} → (B → List A) → Reading A → Reading B
list_reading values r = record {
  M = List r.M;
  seen = λ b. map r.seen (values b);
  item = λ xs. list_of (map r.item xs);
  read = λ v. go_on (here (list_of_views v)) (λ vs. read_each r.read (length vs) vs);
  takes_memory = true;
  Allocates = λ v. IsOkAnd (list_of_views v) (λ vs. vs ≢ []);
}

-- The reading of a type that holds one value: whether reading may fail with `OutOfMemory`, and if so, for which views.
abbrev pub reading_of_held : {A B : Type 0} → Bool → (View → Type 0) → (B → A) → Reading A → Reading B
reading_of_held takes_memory Allocates value r = record {
  M = r.M;
  seen = λ b. r.seen (value b);
  item = r.item;
  read = r.read;
  takes_memory = takes_memory;
  Allocates = Allocates;
}

-- The reading of a type that holds one value, and allocates for no other views than the type of the value.
abbrev pub held_reading : {A B : Type 0} → Bool → (B → A) → Reading A → Reading B
held_reading takes_memory value r = reading_of_held takes_memory r.Allocates value r

-- The views for which a box allocates: those that give a value, which is read first, and those for which reading the value allocates.
abbrev pub BoxAllocates : {A : Type 0} → Reading A → View → Type 0
BoxAllocates r v = IsOk (r.read v).result ⊎ MayLackMemory r v

-- The reading of a type that holds one value in memory, such as a box.
abbrev pub boxed_reading : {A B : Type 0} → (B → A) → Reading A → Reading B
boxed_reading value r = reading_of_held true (BoxAllocates r) value r

-- The reading of item i of a list.
abbrev pub reading_at : {A : Type 0} → ℕ → Reading A → Reading A
reading_at i r = record {
  M = r.M;
  seen = r.seen;
  item = r.item;
  read = λ v. go_on (here (seen_fault (item_at v i))) (λ item. within i (r.read item));
  takes_memory = r.takes_memory;
  Allocates = λ v. IsOkAnd (item_at v i) r.Allocates;
}

-- ---- codecs of types

-- How the values of a type are written and read: which values fit, the item of a value, and the reading.
pub record Form (A : Type 0) : Type 1 where
  pub Fits : A → Type 0
  pub item : A → Item
  pub reading : Reading A

-- A type of strings: which values fit, the bytes of a value, what contracts see of a value, the bytes of a value, by what contracts see of the value, what a string
-- gives, and whether reading allocates, for a string that gives a value.
abbrev pub string_type : {A M : Type 0} → (A → Type 0) → (A → List ℕ) → (A → M) → (M → List ℕ) → (List ℕ → Result M Fault) → Bool → Form A
string_type {M = M} Fits bytes seen written read takes_memory = record {
  Fits = Fits;
  item = λ x. string (bytes x);
  reading = record {
    M = M;
    seen = seen;
    item = λ m. string (written m);
    read = λ v. here (and_then (string_of v) read);
    takes_memory = takes_memory;
    Allocates = λ v. IsOk (and_then (string_of v) read);
  };
}

-- Numbers of at most `width` bytes.
abbrev pub number : ℕ → Form ℕ
number width = string_type (FitsBytes width) big_endian (λ n. n) big_endian (number_of width) false

-- Bools.
abbrev pub truth_value : Form Bool
truth_value = string_type (λ b. ⊤) (λ b. big_endian (bit b)) (λ b. b) (λ b. big_endian (bit b)) (λ d. and_then (number_of 1 d) bit_of) false

-- A type that contracts see as byte strings.
abbrev pub byte_string : {B : Type 0} → (B → List ℕ) → Form B
byte_string bytes = string_type (λ b. ⊤) bytes bytes (λ d. d) (λ d. Ok d) true

-- A type that contracts see as texts.
abbrev pub text : {B : Type 0} → (B → List ℕ) → Form B
text bytes = string_type (λ b. IsUtf8 (bytes b)) bytes bytes (λ d. d) text_of true

-- Arrays of n bytes.
abbrev pub byte_array : ℕ → Form (List ℕ)
byte_array n = string_type (λ a. length a ≡ n) (λ a. a) (λ a. a) (λ a. a) (fixed_of n) false

-- Items of any kind, kept as bytes that are the encoding of the item that the bytes are read as.
abbrev pub raw_item : Form (List ℕ)
raw_item = record {
  Fits = λ b. b ≡ encoding (raw_item_of b);
  item = raw_item_of;
  reading = record {
    M = List ℕ;
    seen = λ b. b;
    item = raw_item_of;
    read = λ v. here (and_then (seen_fault (view_frame v)) raw_of);
    takes_memory = true;
    Allocates = λ v. IsOk (and_then (seen_fault (view_frame v)) raw_of);
  };
}

-- Options of a type.
abbrev pub option : {A : Type 0} → Form A → Form (Option A)
option c = record { Fits = λ o. IfSome o c.Fits; item = option_item c.item; reading = option_reading c.reading }

-- A type that contracts see as lists of values.
abbrev pub list_type : {A B : Type 0} → (B → List A) → Form A → Form B
list_type values c = record { Fits = λ b. All c.Fits (values b); item = λ b. list_of (map c.item (values b)); reading = list_reading values c.reading }

-- A type that holds one value: whether reading may fail with `OutOfMemory`, and if so, for which views.
abbrev pub held_type : {A B : Type 0} → Bool → (View → Type 0) → (B → A) → Form A → Form B
held_type takes_memory Allocates value c = record {
  Fits = λ b. c.Fits (value b);
  item = λ b. c.item (value b);
  reading = reading_of_held takes_memory Allocates value c.reading;
}

-- A type that holds one value, and allocates no memory for the value.
abbrev pub newtype : {A B : Type 0} → (B → A) → Form A → Form B
newtype value c = held_type c.reading.takes_memory c.reading.Allocates value c

-- A type that holds one value in memory, such as a box.
abbrev pub holding : {A B : Type 0} → (B → A) → Form A → Form B
holding value c = held_type true (BoxAllocates c.reading) value c

-- Numbers that are kept as n bytes.
abbrev pub uint : (n : ℕ) → Form (Uint n)
uint n = newtype (λ (u : Uint n). number_from_digits 256 u.bytes) (number n)

-- ---- fields of structs

-- What a list of views gives: a value and the views that are left, or a fault with the views after the item that has the fault and the path in that item.
abbrev pub Taken : Type 0 → Type 0
Taken M = Answer (M × List View) (List View × Fault)

-- How fields are read: what contracts see of the fields, the items of the fields, by what contracts see of the fields, what a list of views gives, which numbers
-- of items are possible, the least number, whether the least number is the only one, and whether reading may also fail with `OutOfMemory`.
pub record FieldsReading (P : Type 0) : Type 1 where
  pub M : Type 0
  pub seen : P → M
  pub items : M → List Item
  pub read : List View → Taken M
  pub accepts : ℕ → Bool
  pub width : ℕ
  pub is_fixed : Bool
  pub takes_memory : Bool

-- How the fields of a struct are written and read: which values fit, the items of a value, and the reading.
pub record FieldsForm (P : Type 0) : Type 1 where
  pub Fits : P → Type 0
  pub items : P → List Item
  pub reading : FieldsReading P

-- What was taken, with f applied to the value.
abbrev pub map_taken : {M N : Type 0} → (M → N) → Taken M → Taken N
map_taken f a = map_answer (λ t. (f t.0, t.1)) a

-- The value of the first view.
abbrev pub take_item : {M : Type 0} → (View → Answer M Fault) → List View → Taken M
take_item read [] = here (Err ([], incorrect_list_len))
take_item read (v ∷ vs) = record { result = map_fault (λ e. (vs, e)) (map_value (λ x. (x, vs)) (read v).result); path = (read v).path }

-- What `read` takes from the views, and what `more` takes from the views that `read` leaves.
abbrev pub take_both : {M N : Type 0} → (List View → Taken M) → (List View → Taken N) → List View → Taken (M × N)
take_both read more vs = go_on (read vs) (λ t. map_taken (λ y. (t.0, y)) (more t.1))

-- What `read` takes from the views, or `None` if there is no view.
abbrev pub take_if : {M : Type 0} → (List View → Taken M) → List View → Taken (Option M)
take_if read [] = here (Ok (None, []))
take_if read (v ∷ vs) = map_taken Some (read (v ∷ vs))

-- What `read` takes from the views again and again until no view is left, but at most as often as `turns` says.
abbrev pub take_each : {M : Type 0} → (List View → Taken M) → ℕ → List View → Taken (List M)
take_each read zero vs = here (Ok ([], vs))
take_each read (suc turns) [] = here (Ok ([], []))
take_each read (suc turns) (v ∷ vs) = go_on (read (v ∷ vs)) (λ t. map_taken (λ xs. t.0 ∷ xs) (take_each read turns t.1))

-- The value, if no view is left.
abbrev pub all_taken : {M : Type 0} → M → List View → Taken M
all_taken x [] = here (Ok (x, []))
all_taken x (v ∷ vs) = here (Err (vs, incorrect_list_len))

-- The path of a fault in a list of n items: the place of the item that the views of the fault come after, and then the path in the item.
abbrev pub path_in : {A : Type 0} → ℕ → Result A (List View × Fault) → Path → Path
path_in n (Ok x) path = []
path_in n (Err e) path = (n - 1 - length e.0) ∷ path

-- The answer of a list of n items, if `t` is what the items give.
abbrev pub in_list : {M : Type 0} → ℕ → Taken M → Answer M Fault
in_list n t = record { result = map_fault (λ e. e.1) (map_value (λ m. m.0) t.result); path = path_in n t.result t.path }

-- The answer of a list whose number of items is possible or not, as the Bool says.
abbrev pub if_possible : {M : Type 0} → Bool → Answer M Fault → Answer M Fault
if_possible true a = a
if_possible false a = here (Err incorrect_list_len)

-- What the fields take from the items of a list, if no item is left.
abbrev pub take_all : {M : Type 0} → (List View → Taken M) → List View → Taken M
take_all read vs = go_on (read vs) (λ t. all_taken t.0 t.1)

-- What the fields take from the items of a list, if the number of items is possible and no item is left.
abbrev pub read_struct : {M : Type 0} → (ℕ → Bool) → (List View → Taken M) → List View → Answer M Fault
read_struct accepts read vs = if_possible (accepts (length vs)) (in_list (length vs) (take_all read vs))

-- The reading of a struct from the list of the fields. A list that has a fault of its own takes no memory.
abbrev pub struct_reading : {P : Type 0} → FieldsReading P → Reading P
struct_reading r = record {
  M = r.M;
  seen = r.seen;
  item = λ m. list_of (r.items m);
  read = λ v. go_on (here (items_of v)) (read_struct r.accepts r.read);
  takes_memory = r.takes_memory;
  Allocates = λ v. IsOk (items_of v);
}

-- The reading of no fields.
abbrev pub no_fields : {P : Type 0} → FieldsReading P
no_fields = record {
  M = ⊤;
  seen = λ p. tt;
  items = λ m. [];
  read = λ vs. here (Ok (tt, vs));
  accepts = λ n. n == 0;
  width = 0;
  is_fixed = true;
  takes_memory = false;
}

-- The reading of one field.
abbrev pub one_field : {A : Type 0} → Reading A → FieldsReading A
one_field r = record {
  M = r.M;
  seen = r.seen;
  items = λ m. r.item m ∷ [];
  read = take_item r.read;
  accepts = λ n. n == 1;
  width = 1;
  is_fixed = true;
  takes_memory = r.takes_memory;
}

-- The reading of the fields of a part of a value, always the same number of items, and then of other fields.
abbrev pub group_before : {A P : Type 0} → (P → A) → FieldsReading A → FieldsReading P → FieldsReading P
group_before value r more = record {
  M = r.M × more.M;
  seen = λ p. (r.seen (value p), more.seen p);
  items = λ m. r.items m.0 ++ more.items m.1;
  read = take_both r.read more.read;
  accepts = λ n. nat_le r.width n && more.accepts (n - r.width);
  width = r.width + more.width;
  is_fixed = more.is_fixed;
  takes_memory = r.takes_memory || more.takes_memory;
}

-- The reading of last fields that may be missing together.
abbrev pub optional_fields : {A P : Type 0} → (P → Option A) → FieldsReading A → FieldsReading P
optional_fields value r = record {
  M = Option r.M;
  seen = λ p. option_map r.seen (value p);
  items = items_if r.items;
  read = take_if r.read;
  accepts = λ n. (n == 0) || r.accepts n;
  width = 0;
  is_fixed = false;
  takes_memory = r.takes_memory;
}

-- The most groups of `width` items that n items can be: none if a group has no items.
abbrev pub most_groups : ℕ → ℕ → ℕ
most_groups zero n = 0
most_groups (suc width) n = n

-- The reading of groups at the end, each of the same fields.
abbrev pub group_fields : {A P : Type 0} → (P → List A) → FieldsReading A → FieldsReading P
group_fields values r = record {
  M = List r.M;
  seen = λ p. map r.seen (values p);
  items = all_items r.items;
  read = λ vs. take_each r.read (most_groups r.width (length vs)) vs;
  accepts = λ n. n % r.width == 0;
  width = 0;
  is_fixed = false;
  takes_memory = true;
}

-- The reading of fields that are all in a part of a value.
abbrev pub part_fields : {P Q : Type 0} → (P → Q) → FieldsReading Q → FieldsReading P
part_fields part r = record {
  M = r.M;
  seen = λ p. r.seen (part p);
  items = r.items;
  read = r.read;
  accepts = r.accepts;
  width = r.width;
  is_fixed = r.is_fixed;
  takes_memory = r.takes_memory;
}

-- ---- codecs of structs

-- No fields.
abbrev pub end : {P : Type 0} → FieldsForm P
end = record { Fits = λ p. ⊤; items = λ p. []; reading = no_fields }

-- One field.
abbrev pub one : {A : Type 0} → Form A → FieldsForm A
one c = record { Fits = c.Fits; items = λ x. c.item x ∷ []; reading = one_field c.reading }

-- The fields of a part of a value, always the same number of items, before other fields.
abbrev pub group : {A P : Type 0} → (P → A) → FieldsForm A → FieldsForm P → FieldsForm P
group value f more = record {
  Fits = λ p. f.Fits (value p) × more.Fits p;
  items = λ p. f.items (value p) ++ more.items p;
  reading = group_before value f.reading more.reading;
}

-- One field before other fields.
abbrev pub field : {A P : Type 0} → (P → A) → Form A → FieldsForm P → FieldsForm P
field value c more = group value (one c) more

-- n fields of one type before other fields: `value k` is the first field, `value (k + 1)` the second, and so on.
abbrev pub each : {A P : Type 0} → (ℕ → P → A) → Form A → FieldsForm P → ℕ → ℕ → FieldsForm P
each value c more k zero = more
each value c more k (suc n) = field (value k) c (each value c more (suc k) n)

-- Last fields that may be missing together.
abbrev pub optional_group : {A P : Type 0} → (P → Option A) → FieldsForm A → FieldsForm P
optional_group value f = record {
  Fits = λ p. IfSome (value p) f.Fits;
  items = λ p. items_if f.items (value p);
  reading = optional_fields value f.reading;
}

-- A last field that may be missing.
abbrev pub optional : {A P : Type 0} → (P → Option A) → Form A → FieldsForm P
optional value c = optional_group value (one c)

-- Groups at the end, each of the same fields.
abbrev pub groups : {A P : Type 0} → (P → List A) → FieldsForm A → FieldsForm P
groups values f = record {
  Fits = λ p. All f.Fits (values p);
  items = λ p. all_items f.items (values p);
  reading = group_fields values f.reading;
}

-- A struct, written as the list of the fields.
abbrev pub struct_of : {P : Type 0} → FieldsForm P → Form P
struct_of f = record { Fits = f.Fits; item = λ p. list_of (f.items p); reading = struct_reading f.reading }
