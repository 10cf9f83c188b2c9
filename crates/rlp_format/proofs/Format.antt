-- digits of numbers, read and written
pub mod DigitBytes
