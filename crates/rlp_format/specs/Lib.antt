-- items, and the bytes that they are written as
pub mod Format
-- values, and their items
pub mod Values
