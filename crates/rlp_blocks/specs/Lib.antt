pub mod Block
pub mod BlockFaults
pub mod Bound
pub mod BoundBlock
pub mod Roots
pub mod RootsText
pub mod SignedContent
