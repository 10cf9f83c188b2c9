-- How messages between clients are written and read, and the messages of p2p.

-- messages with their ids
pub mod Message
-- greetings
pub mod Hello
-- the end of a connection
pub mod Disconnect
-- the ids of capabilities
pub mod Offsets
-- the messages of p2p with their numbers
pub mod P2pMessage
