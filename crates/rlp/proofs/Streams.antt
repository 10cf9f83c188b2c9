-- the items that calls describe
pub mod Descriptions
