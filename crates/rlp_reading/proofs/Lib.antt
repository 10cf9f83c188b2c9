-- Lemmas about the definitions of `specs/`. The invariants and results of a function are in a folder with its name.

-- headers, strings, items and lists of bytes
pub mod Lemmas
-- whole trees
pub mod Trees
-- types that are one string
pub mod StringLaws
-- types that are lists
pub mod ListLaws
-- fields of structs
pub mod FieldLaws
-- structs
pub mod StructLaws
-- groups at the end of structs
pub mod GroupLaws
-- values of several types
pub mod SumLaws
-- types that are read from the whole first item of a view, and raw items
pub mod RawLaws
-- what follows from the laws
pub mod Corollaries
-- each view gives one value or has one fault
pub mod Readings
-- where readings have faults
pub mod PathLaws
-- text that is written in pieces
pub mod Pieces
-- readings that have no fault `OutOfMemory` of their own
pub mod OwnFaultLaws
