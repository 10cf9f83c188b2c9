pub mod Inner
pub mod Message
pub mod Nest
pub mod NestLaws
pub mod Odd
pub mod Parcel
pub mod Row
