-- the item of a value, and which values fit
pub use Rattle.rlp_format.specs.Values.Value
-- which bytes give which value, and which fault
pub mod ValueReading
-- what it means that decoding undoes encoding
pub mod RoundTrip
-- what the fault of a struct prints
pub mod FaultText
-- the place of a reader of fields
pub mod FieldPlace
-- one reading of a struct
pub mod StructReading
-- items that are kept as the bytes of their encodings
pub mod RawItem
-- values of several types
pub mod Sums
