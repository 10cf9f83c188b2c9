mod Faults
mod SeenSame
pub mod AfterByte
pub mod Alone
pub mod Bounds
pub mod Bytes
pub mod Clones
pub mod ItemHashes
pub mod OtherTypes
pub mod Placed
pub mod Scanning
pub mod TypedSums
