-- the digits of a number, written and read
pub use Rattle.rlp_format.proofs.Lemmas.Digits
-- lists that begin one list
pub use Rattle.rlp_format.proofs.Lemmas.Lists
-- written headers
pub use Rattle.rlp_format.proofs.Lemmas.Headers
-- the forms of encodings
pub use Rattle.rlp_format.proofs.Lemmas.Encodings
-- the one header that bytes begin with
pub mod Reading
-- the one string that bytes begin with
pub mod Strings
-- frames, and the items that bytes begin with
pub mod Frames
-- the encodings of lists, and bytes that are exactly one item
pub mod Views
-- bytes after some of their items
pub mod Skipping
-- the items of a view, one after another and by number
pub mod Numbered
-- the string or the number that a view holds
pub mod StringsHeld
-- bytes that are exactly one list, and views that hold a list
pub mod WholeLists
-- an encoding is read as its item
pub mod Items
-- text and depth, by those of the items
pub mod Texts
-- the first item of bytes, by its header
pub mod Fronts
