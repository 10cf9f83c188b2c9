-- How the messages of eth are written and read.

-- what a client knows of the chain
pub mod Status
-- new blocks and transactions, and the blocks that a client has
pub mod Announcements
-- a block's hash or number, and how it is read back
pub mod HashOrNumber
pub mod HashOrNumberLaws
-- requests and their answers
pub mod Requests
-- answers with receipts
pub mod Receipts
-- the messages that eth/68 and eth/69 have in common
pub mod EthMessage
-- the messages of eth/68 with their numbers
pub mod Eth68Message
-- the messages of eth/69 with their numbers
pub mod Eth69Message
