-- the answer to one line
pub mod Answer
-- the result of calls over a front
pub mod Building
-- numbers and bytes as hexadecimal digits
pub use Rattle.rlp_lines.specs.Digits
-- the lines of a text
pub use Rattle.rlp_lines.specs.Lines
-- calls that are made one after another, for private functions
pub mod Making
-- pieces of a script, for private functions
pub mod Pieces
-- raw bytes that are items
pub mod RawItems
-- the replies to lines
pub use Rattle.rlp_lines.specs.Replies
-- what a run leaves in its reader and its writer
pub use Rattle.rlp_lines.specs.Run
-- the calls of a script
pub mod Script
-- the exit status
pub use Rattle.rlp_lines.specs.Run
-- calls of a stream as values
pub mod StreamCalls
-- a reader or writer that is watched
pub use Rattle.rlp_lines.specs.Run
-- why a run ended before the end of its input
pub use Rattle.rlp_lines.specs.declared.serving.RunFault
