-- Lemmas. The answers of a function are in a folder with its name.

-- messages from their bytes
pub mod Messages
-- messages within bounds
pub mod WithinBounds
-- what both ends of a connection find
pub mod BothEnds
