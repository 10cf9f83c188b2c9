-- numbers of any width, without leading zeros
pub mod Uints
