-- Lemmas, in folders named as those of the definitions that they are about. The invariants and results of a function are in a folder with its name.

-- values, and which bytes give them
pub mod Values
-- streams: their states, and what each call does to a state
pub mod Streams
