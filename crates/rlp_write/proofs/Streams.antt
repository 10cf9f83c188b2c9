-- headers and strings as they are written
pub mod Written
-- the texts of a state, as bytes are put and lists closed
pub mod States
-- closing, step by step
pub mod Closings
-- the state that a flat buffer represents
pub mod FlatBuffer
-- the closed size, computed from the places of the open lists
pub mod ClosedSize
-- which states a state grows to
pub mod Growth
-- going back to the state before a call
pub mod Rewinding
-- values appended to a list
pub mod Listed
-- a list that is filled item by item
pub mod Filling
-- unbounded lists that are finalized at once
pub mod Finalizing
-- fields that are appended one after another
pub mod Fields
-- values put one after another with no list open
pub mod Joined
