-- What clauses see of a stream's buffer.
use Rattle.std.specs.Prelude.{ℕ, List}

-- The bytes; how many more bytes the buffer takes without an allocation; and how many bytes were moved to a later place.
pub record Held : Type 0 where
  pub items : List ℕ
  pub spare : ℕ
  pub moved : ℕ
