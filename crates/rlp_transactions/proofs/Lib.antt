pub mod Parities
pub mod Refused
pub mod Scalars
pub mod Signing
