-- items, and the bytes that they are written as and read from
pub mod Format
-- the results of a view's methods
pub mod Views
-- values, their items, and which bytes give them
pub mod Values
-- how values are written as items and read from views
pub mod Form
-- values of several types
pub mod Sums
-- the laws of codecs
pub mod Laws
-- strings of several kinds
pub mod Kinds
-- types that are read from the whole first item of a view
pub mod FirstItems
-- types that are read without `OutOfMemory` as a fault of their own
pub mod OwnFaults
