-- What is left of bytes after some of the items that they begin with.
use Rattle.std.specs.{Prelude.{ℕ, ◌≡◌, ◌≤◌, List, ◌++◌, length, take, drop}, List.concat}
use Rattle.rlp_reading.specs.Format.Framing.{split}

-- p begins with k items or more, and `left` is the bytes of p after the first k of them
pub record IsAfterItems (p : List ℕ) (k : ℕ) (left : List ℕ) : Type 0 where
  pub enough : k ≤ length (split p)
  pub others : split left ≡ drop k (split p)
  pub whole : p ≡ concat (take k (split p)) ++ left
