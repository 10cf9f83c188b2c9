-- One reading of a struct: a value of each field, or one fault.
use Rattle.std.specs.Prelude.{◌⊎◌}
use Rattle.rlp_reading.specs.{declared.error.DecoderError.DecoderError, Values.ValueReading.IsSameFault}

-- Either the fact holds and there is no fault, or the fact does not hold and there is exactly one fault.
pub record HoldsOrHasOneFault (Fact : Type 0) (Faults : DecoderError → Type 0) : Type 0 where
  pub some : Fact ⊎ ((e : DecoderError) × Faults e)
  pub one_fault : (e f : DecoderError) → Faults e → Faults f → IsSameFault e f
  pub not_both : (e : DecoderError) → Fact → ¬ Faults e
