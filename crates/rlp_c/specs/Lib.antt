-- the numbers of faults
pub mod Status
-- what C sees of an item
pub mod Rows
-- what the writing functions leave
pub mod Written
-- the tree that rows describe
pub mod Tree
-- readings that keep nothing
pub mod Forgotten
-- what the codecs of records read
pub mod Fields
-- the answers for transactions and headers
pub mod Records
-- where the fields of a transaction and of a header are
pub mod Places
