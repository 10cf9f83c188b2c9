-- What a step of the walk over a proof gives, and the whole walk.
use Rattle.std.specs.{Prelude.{ℕ, ◌≡◌, ◌⊎◌, List, Option, Result, Ok, Err, option_map}, Global.Vec, Vec.vec_items}
use Rattle.rlp.specs.{DecoderError.DecoderError, Format.Encoding.Item}
use Rattle.rlp.specs.DecoderError.TheVariants as decoder
use Rattle.rlp_trie.specs.{Child.child_item, Lookup.{Step, ends, goes}, ProofWalk.{IsSameKind, Walk}, declared.proof.ProofFault.ProofFault}
use Rattle.rlp_trie.specs.{declared.proof.ProofFault.TheVariants.{FaultyNode, OutOfMemory}, declared.walk.Next.Next, declared.walk.Next.TheVariants.{Below, Value}}

-- the value, or the reference to the node below and the rest of the path
abbrev pub next_step : Next → Step
next_step (Value value) = ends (option_map vec_items value)
next_step (Below child rest) = goes (child_item child) rest.now

-- the fault of a proof with a node that has this fault
abbrev pub read_fault : DecoderError → ProofFault
read_fault decoder.OutOfMemory = OutOfMemory
read_fault fault = FaultyNode fault

-- the walk ends with this result, unless memory was refused
abbrev pub IsEnd : List (List ℕ) → Item → List ℕ → Result (Option (Vec ℕ)) ProofFault → Type 0
IsEnd nodes reference path (Ok value) = Walk nodes reference path (Ok (option_map vec_items value))
IsEnd nodes reference path (Err e) = Walk nodes reference path (Err e) ⊎ (e ≡ OutOfMemory)

-- a result agrees with how the walk ends, unless memory was refused
abbrev pub Agrees : Result (Option (Vec ℕ)) ProofFault → Result (Option (List ℕ)) ProofFault → Type 0
Agrees (Ok value) (Ok wanted) = option_map vec_items value ≡ wanted
Agrees (Ok value) (Err f) = ⊥
Agrees (Err e) (Ok wanted) = e ≡ OutOfMemory
Agrees (Err e) (Err f) = IsSameKind e f ⊎ (e ≡ OutOfMemory)
