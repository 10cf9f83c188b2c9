-- Lemmas, in a file for each file of definitions that they are about. The invariants and results of a function are in a folder with its name.

-- pieces of a text, cut at a byte
pub mod CutLemmas
-- raw bytes that are items
pub mod RawLemmas
-- calls of a stream, one after another
pub mod CallsLemmas
-- the answers to lines of calls
pub mod AnswerLemmas
