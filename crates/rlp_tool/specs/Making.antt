-- Calls that are made one after another, for private functions.
use Rattle.std.specs.Prelude.{ℕ, ◌≡◌, ◌+◌, IsTrue, List, [], ◌∷◌, ◌++◌, length, codes, decimal, Result, Ok, Err}
use Rattle.rlp.specs.Streams.Stream.{State, initial_state, IsFinished, closed_size, raw_text, Call, is_admitted, effect}
use Rattle.rlp_tool.specs.{declared.building.Built.Built, declared.building.Built.TheVariants.{Finished, Open}, declared.building.BuildFault.{BuildFault}}
use Rattle.rlp_tool.specs.declared.building.BuildFault.TheVariants.{TooManyItems, NothingToFinish, RawNotItems, OutOfMemory}
use Rattle.rlp_tool.specs.{declared.making.LineFault.LineFault, declared.making.LineFault.TheVariants.{Syntax, Failed}, Script.{prepend, script}}
use Rattle.rlp_tool.specs.Building.{BringsTooMany, BringsNoItems, HasNothingToFinish, IsRefusalWhere, IsSomeStep, takes_memory}

-- why a call fails, in this state and this place; memory is refused only for a call of which `lacks` holds
abbrev pub Fails : (Call → State → Type 0) → Call → State → ℕ → BuildFault → Type 0
Fails lacks call s place (TooManyItems there) = (there ≡ place) × BringsTooMany call s
Fails lacks call s place (NothingToFinish there) = (there ≡ place) × HasNothingToFinish call s
Fails lacks call s place (RawNotItems there) = (there ≡ place) × BringsNoItems call s
Fails lacks call s place OutOfMemory = lacks call s

-- memory may be refused for a call of a script: the call is admitted, and isn't `clear`. Raw bytes are tested only once they are decoded, which takes memory.
abbrev pub WantsMemoryInScript : Call → State → Type 0
WantsMemoryInScript call s = IsTrue (is_admitted call s) × IsTrue (takes_memory call)

-- a call passes its test, and leads from one state to the other
abbrev pub IsTaken : Call → State → State → Type 0
IsTaken call s t = IsTrue (is_admitted call s) × IsSomeStep call s × (t ≡ effect call s)

-- each call passes its test, and they lead from the state s to the state t
abbrev pub AreMade : State → List Call → State → Type 0
AreMade s [] t = t ≡ s
AreMade s (call ∷ calls) t = IsTrue (is_admitted call s) × IsSomeStep call s × AreMade (effect call s) calls t

-- one of the calls fails after those before it are made; `place` is the place of the first
pub record IsStopped (lacks : Call → State → Type 0) (s : State) (calls : List Call) (place : ℕ) (fault : BuildFault) : Type 0 where
  pub before : List Call
  pub call : Call
  pub later : List Call
  pub in_order : calls ≡ before ++ call ∷ later
  pub met : State
  pub made : AreMade s before met
  pub fails : Fails lacks call met (place + length before) fault

-- the calls are made, or one of them fails
abbrev pub Goes : {T : Type 0} → (Call → State → Type 0) → State → List Call → ℕ → State → Result T BuildFault → Type 0
Goes lacks s calls place t (Ok end) = AreMade s calls t
Goes lacks s calls place t (Err fault) = IsStopped lacks s calls place fault

-- Some of the calls that are left are made, up to the first call that fails. `place` and `next` are the places of the next call before and after.
pub record MakesSome {T : Type 0} (lacks : Call → State → Type 0) (old new : Result (List Call) ℕ) (place next : ℕ) (s t : State) (result : Result T BuildFault)
    : Type 0 where
  pub made : List Call
  pub parts : old ≡ prepend made new
  pub counted : next ≡ place + length made
  pub goes : Goes lacks s made place t result

-- no call comes next: no call is left, or the next piece isn't a call
abbrev pub NoneIsNext : Result (List Call) ℕ → Type 0
NoneIsNext left = (calls : List Call) → left ≡ Ok calls → calls ≡ []

-- the result of a stream in this state
abbrev pub IsHeld : State → Built → Type 0
IsHeld s (Finished bytes) = IsFinished s × (bytes.items ≡ s.front ++ s.stack.inner)
IsHeld s (Open size raw) = ¬ IsFinished s × (size ≡ closed_size s) × (raw.items ≡ raw_text s)

-- no call of the script fails, and with an empty front the calls lead to this state
pub record MakesScript (text : List ℕ) (last : State) : Type 0 where
  pub calls : List Call
  pub says : script text ≡ Ok calls
  pub made : AreMade (initial_state []) calls last
  pub no_front : last.front ≡ []

-- one of the calls of the script fails
pub record StopsScript (text : List ℕ) (fault : BuildFault) : Type 0 where
  pub calls : List Call
  pub says : script text ≡ Ok calls
  pub stops : IsRefusalWhere WantsMemoryInScript [] calls fault

-- why a script has no result: a piece isn't a call, or a call fails
abbrev pub IsLineFault : List ℕ → LineFault → Type 0
IsLineFault text (Syntax place) = script text ≡ Err place
IsLineFault text (Failed fault) = StopsScript text fault

-- the name and the place of a fault were printed; memory wasn't refused
abbrev pub AppendsFault : List ℕ → List ℕ → LineFault → Type 0
AppendsFault old new (Syntax place) = new ≡ old ++ (codes "error syntax at " ++ decimal place)
AppendsFault old new (Failed (TooManyItems place)) = new ≡ old ++ (codes "error too many items at " ++ decimal place)
AppendsFault old new (Failed (NothingToFinish place)) = new ≡ old ++ (codes "error nothing to finish at " ++ decimal place)
AppendsFault old new (Failed (RawNotItems place)) = new ≡ old ++ (codes "error raw not items at " ++ decimal place)
AppendsFault old new (Failed OutOfMemory) = ⊥
