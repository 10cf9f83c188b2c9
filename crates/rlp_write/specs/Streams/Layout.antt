-- The state that a stream's bytes and the places of its open lists stand for. The placeholders go from the inside out.
use Rattle.std.specs.Prelude.{ℕ, Bool, List, take, drop}
use Rattle.rlp_write.specs.{declared.open_lists.Placeholder.Placeholder, Streams.Stream.{Stack, State}, Streams.Placeholders.{begin_of, lists_of}}

-- the stack that the bytes behind the front stand for, from the inside out
abbrev pub stack_of : ℕ → List ℕ → List Placeholder → Stack ℕ
stack_of start b ps = record { inner = drop (begin_of start ps) b; lists = lists_of start b ps }

-- the front is the first bytes
abbrev pub state_of : ℕ → List ℕ → List Placeholder → Bool → State
state_of start b ps is_counted = record { front = take start b; stack = stack_of start b ps; is_counted = is_counted }
