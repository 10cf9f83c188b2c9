-- The answers to lines.
use Rattle.std.specs.Prelude.{ℕ, ◌≡◌, Bool, true, false, List, [], ◌∷◌, ◌++◌, codes, decimal, if◌then◌else◌, Option, Some, None, Result, Ok, Err}
use Rattle.std.specs.Str.Lines.{strip_carriage_return}
use Rattle.rlp.specs.{DecoderError.DecoderError, Views.View.strict_view_of}
use Rattle.rlp_reading.specs.Form.{Fault, Path, Reading, custom, data_len_with_zero, expected_data, expected_list, fault_of, inconsistent_len, incorrect_list_len, invalid_indirection, invalid_len, is_too_big, is_too_short, list_len_with_zero, out_of_memory}
use Rattle.rlp_lines.specs.{Status.status_of, declared.serving.RunFault.RunFault}
use Rattle.rlp_show.specs.{Dump.dump_of, Json.json_of, Lines.lines, Records.fault_display, Value.Value, Value.entry, Value.object, Guess.guess}
use Rattle.rlp_show.specs.{Input.is_node_text, Input.record_bytes, Kinds.kind_name, Names.is_list, Names.kind_part, Names.naming, Shown.Shown, Shown.kind_shown}
use Rattle.rlp_show.specs.{declared.answers.Answers.Answers, declared.answers.Form.Form, declared.answers.Form.TheVariants.Bytes}
use Rattle.rlp_show.specs.{declared.answers.Form.TheVariants.Json, declared.answers.Form.TheVariants.Text, declared.given.Given.Given, declared.kind.Kind.Kind}

-- ---- values

-- A value with this name, which these bytes encode: its lines; one JSON object, whose only key is the kind; or where its contents stand in the bytes.
abbrev pub value_text : Form → Kind → List ℕ → List ℕ → Value → List ℕ
value_text Text kind name b v = lines name v
value_text Json kind name b v = json_of (object (entry [] (kind_name kind) v))
value_text Bytes kind name b v = dump_of b name v

-- ---- faults

-- the name of a fault, and for a custom fault also its text
abbrev pub fault_name : Fault → List ℕ
fault_name is_too_big = codes "RlpIsTooBig"
fault_name is_too_short = codes "RlpIsTooShort"
fault_name expected_list = codes "RlpExpectedToBeList"
fault_name expected_data = codes "RlpExpectedToBeData"
fault_name incorrect_list_len = codes "RlpIncorrectListLen"
fault_name data_len_with_zero = codes "RlpDataLenWithZeroPrefix"
fault_name list_len_with_zero = codes "RlpListLenWithZeroPrefix"
fault_name invalid_indirection = codes "RlpInvalidIndirection"
fault_name inconsistent_len = codes "RlpInconsistentLengthAndData"
fault_name invalid_len = codes "RlpInvalidLength"
fault_name (custom text) = codes "Custom(\"" ++ text ++ codes "\")"
fault_name out_of_memory = codes "OutOfMemory"

-- what is wrong, in JSON: the name of a fault, or for a custom fault its text
abbrev pub fault_word : Fault → List ℕ
fault_word (custom text) = text
fault_word e = fault_name e

-- What is wrong, as a text. In a field this is the word `field`, the place, the name in parentheses, and the fault; outside a field the name and the fault; for a
-- whole record only the fault.
abbrev pub fault_text : Option ℕ → List ℕ → List ℕ → List ℕ
fault_text (Some place) name what = codes "field " ++ decimal place ++ codes " (" ++ name ++ codes "): " ++ what
fault_text None [] what = what
fault_text None (c ∷ name) what = (c ∷ name) ++ codes ": " ++ what

-- The answer to what is at fault in a field with this name, or outside a field: a line, or in JSON an object with the one member `error`. The two texts are the
-- fault in JSON and the fault in lines.
abbrev pub fault_answer : Form → Option ℕ → List ℕ → List ℕ → List ℕ → List ℕ
fault_answer Json place name word what = json_of (fault_display.shown (place, (name, word)))
fault_answer form place name word what = codes "error " ++ fault_text place name what

-- the answer to this fault
abbrev pub error_answer : Form → Option ℕ → List ℕ → Fault → List ℕ
error_answer form place name e = fault_answer form place name (fault_word e) (fault_name e)

-- the answer to a line that isn't a record, such as digits that aren't hexadecimal
abbrev pub no_record : Form → List ℕ → List ℕ
no_record form what = fault_answer form None [] what what

-- The field that a fault is in, by the places that lead to the fault: a field of the outermost record. In a list, this record is an item of the list.
abbrev pub field_at : Bool → Path → Option ℕ
field_at is_list [] = None
field_at false (place ∷ path) = Some place
field_at true (place ∷ []) = None
field_at true (place ∷ inner ∷ path) = Some inner

-- ---- records

-- the answer to bytes of a record of a kind with this name, by what they give
abbrev pub shown_text : Form → Kind → List ℕ → List ℕ → Result Value Fault → Path → List ℕ
shown_text form kind name b (Ok v) path = value_text form kind name b v
shown_text form kind name b (Err e) path =
    error_answer form (field_at (is_list (kind_part kind)) path) (naming (kind_part kind) (strict_view_of b) path name) e

abbrev pub kind_text : Form → Kind → List ℕ → List ℕ → Shown → List ℕ
kind_text form kind name b s = shown_text form kind name b s.result s.path

-- the answer to what is given, by what its bytes give
abbrev pub given_text : Given → Shown → List ℕ
given_text given s = kind_text given.form given.kind given.name.now given.bytes.now s

-- The name of a whole record, if its kind isn't guessed. In JSON it is the name of the kind. In lines a list has the name of its kind, and any other record has no
-- name.
abbrev pub own_name : Form → Kind → List ℕ
own_name Json kind = kind_name kind
own_name form kind = if is_list (kind_part kind) then kind_name kind else []

-- the answer to the bytes of a record, by the kind that is guessed of it
abbrev pub guessed_text : Form → List ℕ → Result (Option Kind) DecoderError → List ℕ
guessed_text form b (Ok (Some kind)) = kind_text form kind (kind_name kind) b (kind_shown kind b)
guessed_text form b (Ok None) = error_answer form None [] (custom (codes "unknown kind"))
guessed_text form b (Err e) = error_answer form None [] (fault_of e)

-- the answer to the bytes of a record of this kind, or of a record whose kind is guessed
abbrev pub bytes_text : Form → Option Kind → List ℕ → List ℕ
bytes_text form (Some kind) b = kind_text form kind (own_name form kind) b (kind_shown kind b)
bytes_text form None b = guessed_text form b (guess (strict_view_of b))

-- ---- lines

-- the answer for the bytes of a text, or what is wrong with a text that has no bytes
abbrev pub text_answer : Answers → List ℕ → Option (List ℕ) → List ℕ
text_answer answers text (Some b) = bytes_text answers.form answers.kind b
text_answer answers text None = no_record answers.form (if is_node_text text then codes "base64" else codes "hex")

-- the answer to a line that isn't too long
abbrev pub answer_of : Answers → List ℕ → List ℕ
answer_of answers line = text_answer answers (strip_carriage_return line) (record_bytes (strip_carriage_return line))

-- the answer to a line that is too long
abbrev pub long_line : Answers → List ℕ
long_line answers = no_record answers.form (codes "long line")

-- in each form, the answer to a line for records of a kind is this value, which these bytes encode
abbrev pub IsAnswered : Kind → List ℕ → List ℕ → Value → Type 0
IsAnswered kind line b v = (form : Form) → answer_of (record { kind = Some kind; form = form }) line ≡ value_text form kind (own_name form kind) b v

-- The value is what is shown of some m, and each x that contracts see as m has the property.
abbrev pub IsRead : {A : Type 0} → (A → Type 0) → (r : Reading A) → (r.M → Value) → Value → Type 0
IsRead {A} P r shown v = (m : r.M) × (v ≡ shown m) × ((x : A) → r.seen x ≡ m → P x)

-- the most bytes that a line may have, without its newline: 32 MiB
abbrev pub longest_line : ℕ
longest_line = 33554432

-- the exit status after a run, which tells whether a line was at fault
abbrev pub exit_status : Result Bool RunFault → ℕ
exit_status (Ok false) = 0
exit_status (Ok true) = 5
exit_status (Err fault) = status_of fault
