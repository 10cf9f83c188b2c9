-- What the fault of a struct prints.
use Rattle.std.specs.Prelude.{ℕ, List, ◌++◌, codes, decimal, Option, Some, None}
use Rattle.rlp_reading.specs.{declared.error.DecoderError.DecoderError, Views.Text.error_name}

-- the name of the fault, after the place of the field and a colon if there is a place
abbrev pub field_fault_text : Option ℕ → DecoderError → List ℕ
field_fault_text None e = error_name e
field_fault_text (Some place) e = codes "field " ++ decimal place ++ codes ": " ++ error_name e
