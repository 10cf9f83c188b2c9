-- Less than what is known of a fault.
use Rattle.std.proofs.Common.{Result, Ok, Err, IfErr}
use Rattle.rlp.specs.DecoderError.{DecoderError}

-- the first of two facts about a fault
pub fault_first : {R : Type 0} (r : Result R DecoderError) (P Q : DecoderError → Type 0) → IfErr r (λ e. P e × Q e) → IfErr r P
fault_first (Ok w) P Q both = tt
fault_first (Err e) P Q both = both.0
