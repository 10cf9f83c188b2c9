-- How transactions are written and read as they are sent.

-- a blob
pub mod Blob
-- the version of a list with blobs
pub mod Versions
pub mod VersionLaws
-- two structs that differ in their number of items
pub mod ItemCounts
pub mod ItemCountLaws
-- a transaction with its blobs
pub mod BlobWrapper
-- the numbers of blobs, and versioned hashes
pub mod BlobCheck
-- transactions of all types, as they are sent
pub mod PooledTransaction
