-- For laws: values that are read of the same bytes are seen as the same.
use Rattle.std.proofs.Common.{◌≡◌, ℕ, ◌^◌, ◌<◌, Bool, false, true, IsTrue, List, length, Result, Ok, Err, IfOk, IfErr, IsOkAnd}
use Rattle.rlp.specs.{DecoderError.DecoderError, Format.Encoding.encoding, Views.View.strict_view_of}
use Rattle.rlp_reading.{specs.{Form.Form, Laws.IsLawful}, proofs.Corollaries.{one_value}}

module _ {A : Type 0} (c : Form A) (law : IsLawful c) (b : List ℕ) (short : length b < 2 ^ 64) (v : A) (fit : c.Fits v) (is : b ≡ encoding (c.item v)) where
  -- the value that is read of the encoding of v is seen as v
  pub seen_same : (r : Result A DecoderError) → IfOk r (λ w. c.Fits w × (b ≡ encoding (c.item w)))
      → IfOk r (λ w. c.Fits w × (c.reading.seen w ≡ c.reading.seen v))
  seen_same (Ok w) (fits, whole) =
      (fits, one_value c.reading (strict_view_of b) w v ((law.back true).back b w short fits whole) ((law.back true).back b v short fit is))
  seen_same (Err e) whole = tt

-- a result whose only fault is that memory runs out, for a type that takes none, is a value
pub never_lacks : {A : Type 0} (P : A → Type 0) (Q : DecoderError → Type 0) (r : Result A DecoderError) (takes_memory : Bool) → takes_memory ≡ false
    → IfErr r (λ e. Q e × IsTrue takes_memory) → IfOk r P → IsOkAnd r P
never_lacks P Q (Ok w) takes_memory none fault whole = whole
never_lacks P Q (Err e) takes_memory none fault whole = absurd (let yes = fault.1 in let no : ⊥ = cc in no)
