-- The definitions, in reading order.

-- what is shown of a value, and how a sink takes it
pub mod Value
-- the lines and the JSON of a value
pub mod Lines
pub mod Json
-- how the values of a type are shown, by its parts
pub mod DisplayLaws
pub mod Display
-- where contents stand in the encoding
pub mod Dump
-- records, and the faults of records
pub mod Records
-- items, nodes of the trie and node records
pub mod Items
pub mod NodeRecords
pub mod ItemLaws
pub mod ItemDisplays
-- transactions and blocks
pub mod Transactions
pub mod Blocks
-- messages
pub mod Messages
-- the kinds of messages and of records
pub mod Kinds
-- the kind of a record that isn't named
pub mod Guess
-- the bytes of a record that is given as text
pub mod Input
-- what the bytes of a record give
pub mod Shown
-- the names of the parts of records
pub mod Names
-- the answers to lines
pub mod Answers
-- what the arguments of the program ask for
pub mod Request
-- what the program does for its arguments, and its exit status
pub mod Program
