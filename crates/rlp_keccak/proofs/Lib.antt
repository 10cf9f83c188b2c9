pub mod Complements
pub mod RoundConstants
pub mod Sponge
