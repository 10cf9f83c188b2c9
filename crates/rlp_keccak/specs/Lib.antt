pub mod Complements
pub mod Keccak
