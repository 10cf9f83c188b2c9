-- How the messages of eth are written and read.

-- messages of eth
pub mod Eth
