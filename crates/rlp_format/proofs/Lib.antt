-- Lemmas, in folders named as those of the definitions that they are about. The invariants and results of a function are in a folder with its name.

-- bytes as hexadecimal digits
pub mod HexDigits
-- digits of numbers
pub mod Format
-- values, and what prints of them
pub mod Values
-- lemmas for the laws of traits and for authors of types
pub mod Lemmas
