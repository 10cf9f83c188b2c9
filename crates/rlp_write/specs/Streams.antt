-- the state of a stream, its calls, and the effect of each
pub mod Stream
-- the bytes that an iterator gives
pub mod Iterated
-- for the code only, cited by no public contract: the buffer of a stream
pub mod Held
-- the places of open lists in its bytes
pub mod Placeholders
-- the state that bytes and places stand for
pub mod Layout
-- what closing does to bytes and places
pub mod Closing
-- how a state grows
pub mod Growth
-- what a call that fails in a chain leaves of a stream
pub mod Chain
-- the place that a call notes, to go back to it later
pub mod Places
-- values that are appended one after another
pub mod Fields
