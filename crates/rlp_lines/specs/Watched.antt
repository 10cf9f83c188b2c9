-- What contracts see of a watched reader or writer.
use Rattle.std.specs.Prelude.{ℕ, Bool}

-- a reader or writer, whether it has failed, how many reads it made, and whether it was flushed since the last write that took bytes
pub record Watched (T : Type 0) : Type 0 where
  pub inner : T
  pub failed : Bool
  pub reads : ℕ
  pub flushed : Bool
