-- Lemmas, in a file for each file of definitions that they are about. The invariants and results of a function are in a folder with its name.

-- bytes that a reader gave
pub mod PieceLemmas
-- headers that are read byte by byte
pub mod HeaderLemmas
-- what reading an item gives
pub mod AnswerLemmas
-- the laws of what reading an item gives
pub mod LawLemmas
-- the items of a stream, read one after another
pub mod CountLemmas
