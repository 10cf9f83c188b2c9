-- numbers and bytes as digits
pub mod Digits
-- the lines of a text
pub mod Lines
-- the replies to lines
pub mod Replies
-- what a run leaves in its reader and its writer
pub mod Run
-- the exit status
pub mod Status
-- a reader or writer that is watched
pub mod Watched
-- the loop over the input, for private functions
pub mod Progress
