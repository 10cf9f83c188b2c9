-- the state of a stream, its calls, and the effect of each
pub use Rattle.rlp_write.specs.Streams.Stream
-- how a state grows
pub use Rattle.rlp_write.specs.Streams.Growth
-- what a call that fails in a chain leaves of a stream
pub use Rattle.rlp_write.specs.Streams.Chain
-- values that are appended one after another
pub use Rattle.rlp_write.specs.Streams.Fields
-- the bytes that an iterator gives
pub use Rattle.rlp_write.specs.Streams.Iterated
-- the items that calls describe
pub mod Described
-- for the code only, cited by no public contract: the buffer of a stream
pub use Rattle.rlp_write.specs.Streams.Held
-- the places of open lists in its bytes
pub use Rattle.rlp_write.specs.Streams.Placeholders
-- the state that bytes and places stand for
pub use Rattle.rlp_write.specs.Streams.Layout
-- what closing does to bytes and places
pub use Rattle.rlp_write.specs.Streams.Closing
