-- The status numbers of faults in C.
use Rattle.std.specs.Prelude.{ℕ, ◌≡◌, Bool, List, Result, Ok, Err}
use Rattle.rlp_reading.specs.{declared.error.DecoderError.DecoderError, declared.flat.TreeFault.TreeFault, declared.flat.TreeFault.TheVariants.{Decoding, TooDeep}}
use Rattle.rlp_reading.specs.Form.{Fault, custom, data_len_with_zero, expected_data, expected_list, fault_of, inconsistent_len, incorrect_list_len}
use Rattle.rlp_reading.specs.{Form.{invalid_indirection, invalid_len, is_too_big, is_too_short, list_len_with_zero, out_of_memory}, Views.View.View}

-- the number of a fault; no fault has the number 0
abbrev pub fault_number : Fault → ℕ
fault_number is_too_big = 1
fault_number is_too_short = 2
fault_number expected_list = 3
fault_number expected_data = 4
fault_number incorrect_list_len = 5
fault_number data_len_with_zero = 6
fault_number list_len_with_zero = 7
fault_number invalid_indirection = 8
fault_number inconsistent_len = 9
fault_number invalid_len = 10
fault_number (custom text) = 11
fault_number out_of_memory = 12

-- the number of an error
abbrev pub fault_status : DecoderError → ℕ
fault_status e = fault_number (fault_of e)

-- the number of a fault of a tree
abbrev pub tree_status : TreeFault → ℕ
tree_status (Decoding e) = fault_status e
tree_status TooDeep = 14

-- ---- what a function for C returns and leaves in its result parameter

-- The status 0 and the value that was read, or the number of the fault and the old result. No fault has the number 0.
abbrev pub Answers : {A M : Type 0} → (A → M) → Result M Fault → ℕ → A → A → Type 0
Answers seen (Ok x) status old new = (status ≡ 0) × (seen new ≡ x)
Answers seen (Err e) status old new = (status ≡ fault_number e) × (new ≡ old)

-- the view of these bytes, strict or lenient
abbrev pub view_as : Bool → List ℕ → View
view_as is_strict b = record { bytes = b; is_strict = is_strict }
