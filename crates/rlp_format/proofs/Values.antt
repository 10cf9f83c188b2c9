-- the digits of a number in a base
pub mod NumberTexts
