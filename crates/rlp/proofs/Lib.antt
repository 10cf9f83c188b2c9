-- Lemmas, in folders named as those of the definitions that they are about. The results of a function are in a folder with its name.

-- the items that calls describe
pub mod Streams
-- the items of a view
pub mod Readers
-- what a struct gives, by the number of its items
pub mod Counting
-- what is written for raw items
pub mod RawWriting
-- for authors of types: the rules for bodies that write and that read
pub mod Writing
-- the same rules in smaller sets, passed on from `rlp_reading` and `rlp_write`
pub mod Growth
pub mod Filling
