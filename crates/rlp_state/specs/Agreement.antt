-- Results that agree with how a proof ends.
use Rattle.std.specs.Prelude.{◌≡◌, ◌⊎◌, Result, Ok, Err}
use Rattle.rlp_state.specs.{Faults.IsSameFault, declared.fault.StateFault.StateFault, declared.fault.StateFault.TheVariants.OutOfMemory}

-- a result agrees with an outcome, unless memory was refused
abbrev pub Agrees : {A B : Type 0} → (A → B → Type 0) → Result A StateFault → Result B StateFault → Type 0
Agrees Same (Ok x) (Ok y) = Same x y
Agrees Same (Ok x) (Err f) = ⊥
Agrees Same (Err e) (Ok y) = e ≡ OutOfMemory
Agrees Same (Err e) (Err f) = IsSameFault e f ⊎ (e ≡ OutOfMemory)
