-- The text of a view, and of an error.
use Rattle.std.specs.Prelude.{ℕ, Bool, true, false, List, [], ◌∷◌, ◌++◌, map, codes, Result, Ok, Err}
use Rattle.hex.specs.Hex.{encode_lower}
use Rattle.rlp_reading.specs.declared.error.DecoderError.{DecoderError}
use Rattle.rlp_reading.specs.declared.error.DecoderError.TheVariants.{RlpIsTooBig, RlpIsTooShort, RlpExpectedToBeList, RlpExpectedToBeData}
use Rattle.rlp_reading.specs.declared.error.DecoderError.TheVariants.{RlpIncorrectListLen, RlpDataLenWithZeroPrefix, RlpListLenWithZeroPrefix}
use Rattle.rlp_reading.specs.declared.error.DecoderError.TheVariants.{RlpInvalidIndirection, RlpInconsistentLengthAndData, RlpInvalidLength, Custom}
use Rattle.rlp_reading.specs.{declared.error.DecoderError.TheVariants.OutOfMemory, Format.Framing.{value, begins_as_list, items}, Views.ByItems.{by_items}}

-- the printed text of an error: its name, and for `Custom` also the text
abbrev pub error_name : DecoderError → List ℕ
error_name RlpIsTooBig = codes "RlpIsTooBig"
error_name RlpIsTooShort = codes "RlpIsTooShort"
error_name RlpExpectedToBeList = codes "RlpExpectedToBeList"
error_name RlpExpectedToBeData = codes "RlpExpectedToBeData"
error_name RlpIncorrectListLen = codes "RlpIncorrectListLen"
error_name RlpDataLenWithZeroPrefix = codes "RlpDataLenWithZeroPrefix"
error_name RlpListLenWithZeroPrefix = codes "RlpListLenWithZeroPrefix"
error_name RlpInvalidIndirection = codes "RlpInvalidIndirection"
error_name RlpInconsistentLengthAndData = codes "RlpInconsistentLengthAndData"
error_name RlpInvalidLength = codes "RlpInvalidLength"
error_name (Custom text) = codes "Custom(\"" ++ text.now ++ codes "\")"
error_name OutOfMemory = codes "OutOfMemory"

-- the texts with `, ` between
abbrev pub separated : List (List ℕ) → List ℕ
separated [] = []
separated (t ∷ []) = t
separated (t ∷ u ∷ ts) = t ++ codes ", " ++ separated (u ∷ ts)

-- The text of b, by its value. The text of a string has its digits, the text of a list has the texts of its items, which `text_of` gives. If b has no value, the
-- text is the name of the fault.
abbrev pub framed_text : (List ℕ → List ℕ) → List ℕ → Bool → Result (List ℕ) DecoderError → List ℕ
framed_text text_of b is_list (Err e) = error_name e
framed_text text_of b false (Ok v) = codes "\"0x" ++ encode_lower v ++ codes "\""
framed_text text_of b true (Ok v) = codes "[" ++ separated (map text_of (items b)) ++ codes "]"

-- the text of b, if text_of gives the texts of its items
abbrev pub text_by : (List ℕ → List ℕ) → List ℕ → List ℕ
text_by text_of [] = codes "null"
text_by text_of (first ∷ more) = framed_text text_of (first ∷ more) (begins_as_list (first ∷ more)) (value (first ∷ more))

-- The text of a view. The law `text_and_depth_go_by_items` says that this is `text_by text b`.
unfoldable pub text : List ℕ → List ℕ
text b = by_items [] text_by b
