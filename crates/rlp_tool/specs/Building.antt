-- The result of calls over a front.
use Rattle.std.specs.Prelude.{ℕ, suc, ◌≡◌, ◌<◌, ◌⊎◌, Bool, true, false, IsTrue, List, ◌∷◌, ◌++◌, length, Ok}
use Rattle.rlp.specs.{Format.Encoding.{Item, join}, Streams.Stream.{Call, append_raw, append_raw_checked, clear, finalize_unbounded_list, is_admitted, after}}
use Rattle.rlp.specs.Streams.Stream.{State, initial_state, IsFinished, closed_size, raw_text}
use Rattle.rlp.specs.Streams.Described.{Step, DescribesWhere, AreDescribedWhere, IsDescribed, IsDescribedWhere, FinishAs}
use Rattle.rlp_tool.specs.{declared.building.Built.Built, declared.building.Built.TheVariants.{Finished, Open}, declared.building.BuildFault.{BuildFault}}
use Rattle.rlp_tool.specs.{declared.building.BuildFault.TheVariants.{TooManyItems, NothingToFinish, RawNotItems, OutOfMemory}, RawItems.{AreRawItems, IsShallow}}

-- all calls over the front are admitted and leave a list open; the closed size and the raw text are these
pub record StayOpen (front : List ℕ) (calls : List Call) (size : ℕ) (raw : List ℕ) : Type 0 where
  pub last : State
  pub admitted : after front calls ≡ Ok last
  pub unfinished : ¬ IsFinished last
  pub closed : size ≡ closed_size last
  pub text : raw ≡ raw_text last

-- whether a call puts raw bytes
abbrev pub is_raw : Call → Bool
is_raw (append_raw bytes count) = true
is_raw (append_raw_checked bytes count limit) = true
is_raw _ = false

-- whether a call closes an unbounded list
abbrev pub is_finish : Call → Bool
is_finish finalize_unbounded_list = true
is_finish _ = false

-- the raw bytes of a call are the announced number of items, none deeper than 256; this always holds for a call without raw bytes
abbrev pub BringsItems : Call → Type 0
BringsItems (append_raw bytes count) = AreRawItems bytes count
BringsItems _ = Unit

-- the step that a call is, in the state before it
abbrev pub IsSomeStep : Call → State → Type 0
IsSomeStep call s = (m : Step) × DescribesWhere IsShallow s call m

-- no call over the front fails: each is admitted, and raw bytes are the announced number of items, none deeper than 256
pub record AreTaken (front : List ℕ) (calls : List Call) : Type 0 where
  pub steps : List Step
  pub described : AreDescribedWhere IsShallow (initial_state front) calls steps

-- the call in this place, counted from 1, fails for a reason that it has in the state before it, and no call before it fails
pub record AreRefused (reason : Call → State → Type 0) (front : List ℕ) (calls : List Call) (place : ℕ) : Type 0 where
  pub before : List Call
  pub call : Call
  pub later : List Call
  pub in_order : calls ≡ before ++ call ∷ later
  pub counted : place ≡ suc (length before)
  pub taken : AreTaken front before
  pub met : State
  pub admitted : after front before ≡ Ok met
  pub refused : reason call met

-- raw bytes count more items than the innermost list awaits
abbrev pub BringsTooMany : Call → State → Type 0
BringsTooMany call s = (is_admitted call s ≡ false) × IsTrue (is_raw call)

-- a list is to be closed, but no list is open, or the innermost one awaits a number of items
abbrev pub HasNothingToFinish : Call → State → Type 0
HasNothingToFinish call s = (is_admitted call s ≡ false) × IsTrue (is_finish call)

-- raw bytes may be counted as this number of items, but aren't this number of items
abbrev pub BringsNoItems : Call → State → Type 0
BringsNoItems call s = IsTrue (is_admitted call s) × (¬ BringsItems call)

-- whether memory may be refused for a call: for each call but `clear`
abbrev pub takes_memory : Call → Bool
takes_memory clear = false
takes_memory _ = true

-- memory may be refused for a call: it passes its test, and it isn't `clear`
abbrev pub WantsMemory : Call → State → Type 0
WantsMemory call s = IsTrue (is_admitted call s) × BringsItems call × IsTrue (takes_memory call)

-- the result of the calls over the front, if none fails
abbrev pub IsBuilt : List ℕ → List Call → Built → Type 0
IsBuilt front calls (Finished bytes) = FinishAs front calls bytes.items
IsBuilt front calls (Open size raw) = StayOpen front calls size raw.items

-- why calls fail: one call fails its test, or memory was refused for a call of which `lacks` holds; no call before it fails
abbrev pub IsRefusalWhere : (Call → State → Type 0) → List ℕ → List Call → BuildFault → Type 0
IsRefusalWhere lacks front calls (TooManyItems place) = AreRefused BringsTooMany front calls place
IsRefusalWhere lacks front calls (NothingToFinish place) = AreRefused HasNothingToFinish front calls place
IsRefusalWhere lacks front calls (RawNotItems place) = AreRefused BringsNoItems front calls place
IsRefusalWhere lacks front calls OutOfMemory = (place : ℕ) × AreRefused lacks front calls place

-- why calls fail: one call fails its test, or passes it and memory was refused; no call before it fails
abbrev pub IsRefusal : List ℕ → List Call → BuildFault → Type 0
IsRefusal front calls fault = IsRefusalWhere WantsMemory front calls fault

-- why calls over a copy of the front fail: as `IsRefusal` says, or memory was refused for the copy, which has bytes
abbrev pub IsRefusalOnCopy : List ℕ → List Call → BuildFault → Type 0
IsRefusalOnCopy front calls fault = IsRefusal front calls fault ⊎ ((fault ≡ OutOfMemory) × (0 < length front))

-- all calls over the front are admitted and leave a list open
abbrev pub LeaveOpen : List ℕ → List Call → Type 0
LeaveOpen front calls = (size : ℕ) × (raw : List ℕ) × StayOpen front calls size raw

-- the calls describe items, and no item of raw bytes is too deep; so no call fails, and no list is open at the end
abbrev pub DescribeItems : List ℕ → List Call → Type 0
DescribeItems front calls = (items : List Item) × IsDescribedWhere IsShallow front calls items

-- the calls describe items, no item of raw bytes is too deep, and the finished buffer is the front and the joined encodings of the items
pub record AreJoined (front : List ℕ) (calls : List Call) (bytes : List ℕ) : Type 0 where
  pub items : List Item
  pub shallow : IsDescribedWhere IsShallow front calls items
  pub described : IsDescribed front calls items
  pub joined : bytes ≡ front ++ join items

-- a finished buffer of the calls is as `AreJoined` says; nothing is said if a list is open
abbrev pub IsJoined : List ℕ → List Call → Built → Type 0
IsJoined front calls (Finished bytes) = AreJoined front calls bytes.items
IsJoined front calls (Open size raw) = Unit

-- a finished buffer of these bytes
abbrev pub IsFinishedAs : List ℕ → Built → Type 0
IsFinishedAs expected (Finished bytes) = bytes.items ≡ expected
IsFinishedAs expected (Open size raw) = ⊥
