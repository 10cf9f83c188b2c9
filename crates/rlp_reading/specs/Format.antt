-- items, headers, and the encoding of an item
pub use Rattle.rlp_format.specs.Format.Encoding
-- where the items of bytes begin and end: headers, the first item, the items of a list, strings, and bytes that are exactly one item
pub mod Framing
-- what is left of bytes after some of their items
pub mod Skipping
-- a tree in flat form
pub mod Flat
-- the first fault of bytes that should be a tree
pub mod TreeFaults
-- what the walk over a tree has done
pub mod Walk
