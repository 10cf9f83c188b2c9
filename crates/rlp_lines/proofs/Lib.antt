-- Lemmas, in a file for each file of definitions that they are about. The invariants and results of a function are in a folder with its name.

-- numbers and bytes as digits
pub mod DigitLemmas
-- lines of a text that grows at its end
pub mod LinesLemmas
-- steps of the loop over the input
pub mod ProgressLemmas
