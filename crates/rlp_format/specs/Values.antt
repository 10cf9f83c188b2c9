-- the item of a value, and which values fit
pub mod Value
-- the printed text of a number
pub mod NumberText
