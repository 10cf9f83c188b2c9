-- the digits of a number, written and read
pub mod Digits
-- lists that begin one list
pub mod Lists
-- the first byte of a written header
pub mod Headers
-- the forms of encodings
pub mod Encodings
