-- The definitions, in reading order. Each folder lists its files in reading order, with a line on each. Each word is defined before it is used.

-- items, and the bytes that they are written as
pub use Rattle.rlp_reading.specs.Format
-- the results of a view's methods
pub use Rattle.rlp_reading.specs.Views
-- values, their items, and which bytes give them
pub use Rattle.rlp_reading.specs.Values
-- streams: their states, and the effect of each call
pub mod Streams
-- how the values of types are written and read
pub use Rattle.rlp_reading.specs.Form
-- values of several types
pub use Rattle.rlp_reading.specs.Sums
-- types whose strings are of several kinds
pub use Rattle.rlp_reading.specs.Kinds
-- types that are read from a whole item
pub use Rattle.rlp_reading.specs.FirstItems
-- the laws of codecs
pub use Rattle.rlp_reading.specs.Laws
-- what a reader of items has left
pub mod Left
-- the codec of a custom type, made from the codecs of its fields, with its laws
pub mod Codec
-- the faults of decoding
pub use Rattle.rlp_reading.specs.declared.error.DecoderError
-- the lengths that a header announces
pub use Rattle.rlp_reading.specs.declared.header.PayloadInfo
-- what a view begins with
pub use Rattle.rlp_reading.specs.declared.prototype.Prototype
-- an item of a tree in flat form, and the fault of bytes that have no flat form
pub use Rattle.rlp_reading.specs.declared.flat.FlatItem
pub use Rattle.rlp_reading.specs.declared.flat.TreeFault
-- numbers that are kept as n bytes
pub use Rattle.rlp_format.specs.declared.uint.Uint
-- the printed text of a number
pub use Rattle.rlp_format.specs.Values.NumberText
