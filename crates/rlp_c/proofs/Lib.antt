-- the walk over the items of one list
mod Splitting
-- the tree that rows describe
mod Trees
-- a tree that is gone through from its last row on
mod Measuring
-- bytes that are put one after another
mod Texts
-- the rows of a tree describe it
mod Described
-- tests that keep nothing have the faults of the codecs
pub mod Testing
-- the answers for transactions and headers
mod RecordAnswers
