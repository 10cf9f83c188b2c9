-- an item: a byte string, or a list of items; digits of a number; headers; and the encoding of an item
pub mod Encoding
