-- bytes that are and aren't canonical within a depth, and their first fault
pub mod Canonical
-- strings with and without a needless header
pub mod Needless
-- the walk over the items of a list, and the rows that it writes
pub mod Walks
