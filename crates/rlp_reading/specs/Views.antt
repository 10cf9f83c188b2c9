-- the results of a view's methods
pub mod View
-- results for bytes, from the results for their items
pub mod ByItems
-- the printed text of a view
pub mod Text
-- text that is put into a buffer, and written from it, for private functions
pub mod Buffered
-- the text of a fault of a tree
pub mod FaultText
-- how deep lists nest
pub mod Depth
