pub mod Clones
pub mod Keys
pub mod Texts
