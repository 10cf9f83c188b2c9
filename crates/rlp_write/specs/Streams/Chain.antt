-- What the calls that return the stream for the next call have in common.
use Rattle.std.specs.{Prelude.{◌≡◌, Result, IfOk}, Borrow.{Fml, MutBor, RestsIfErr}}
use Rattle.rlp_write.specs.{contracts.flat.RlpStream.the_row, declared.stream.chain.Chain.Chain, Streams.Stream.{Seen, IsAsBefore, MovedGrows}}

-- a call that fails leaves the stream with its old state, and the count of moved bytes doesn't fall; after any other call the stream ends as the chain leaves it
abbrev pub stays_if_refused : {E : Type 0} → MutBor Seen → Result Chain E → Fml
stays_if_refused stream r = RestsIfErr the_row stream (λ c. c.stream.ghost_name) r (λ last. (last.state ≡ stream.now.state) × MovedGrows stream.now last)

-- a call that fails leaves the stream with its old state and its old count of moved bytes; after any other call the stream ends as the chain leaves it
abbrev pub rests_if_refused : {E : Type 0} → MutBor Seen → Result Chain E → Fml
rests_if_refused stream r = RestsIfErr the_row stream (λ c. c.stream.ghost_name) r (λ last. IsAsBefore stream.now last)

-- the chain holds this stream
abbrev pub HoldsStream : {E : Type 0} → MutBor Seen → Result Chain E → Type 0
HoldsStream stream r = IfOk r (λ c. c.stream.ghost_name ≡ stream.ghost_name)
