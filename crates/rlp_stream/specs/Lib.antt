-- what reading an item gives
pub mod Item
-- the steps of reading, for private functions
pub mod Pieces
-- what a fault prints
pub mod FaultText
-- how many items and bytes a stream has
pub mod Counts
