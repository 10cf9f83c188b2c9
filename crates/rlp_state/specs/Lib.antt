pub mod Agreement
pub mod Faults
pub mod State
pub mod StateProofs
