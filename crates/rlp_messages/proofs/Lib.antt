-- Lemmas. The answers of a function are in a folder with its name.

-- hashes and numbers
pub mod Found
