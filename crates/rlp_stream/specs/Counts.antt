-- How many items and bytes a stream has.
use Rattle.std.specs.Prelude.{ℕ, ◌≡◌, ◌≤◌, ◌-◌, ◌^◌, min, List, ◌++◌, length, All, Err}
use Rattle.std.specs.List.{concat}
use Rattle.rlp_reading.specs.Format.Framing.{IsFramedItem, split}
use Rattle.rlp_stream.specs.{declared.counting.Count.Count, declared.fault.ReadFault.ReadFault, Item.{UnlessStopped, item_answer}}

-- the bytes are items one after another, each of at most `most` bytes, and these are their counts; the count of bytes doesn't grow beyond 2^64 - 1
pub record Counts (most : ℕ) (left : List ℕ) (count : Count) : Type 0 where
  pub whole : concat (split left) ≡ left
  pub fit : All (λ f. length f ≤ most) (split left)
  pub items : count.items ≡ length (split left)
  pub bytes : count.bytes ≡ min (length left) (2 ^ 64 - 1)

-- some items of at most `most` bytes stand in front, and reading what follows them gives this fault
pub record IsFaultAfter (most : ℕ) (left : List ℕ) (fault : ReadFault) : Type 0 where
  pub items : List (List ℕ)
  pub framed : All IsFramedItem items
  pub fit : All (λ f. length f ≤ most) items
  pub more : List ℕ
  pub parts : left ≡ concat items ++ more
  pub answer : UnlessStopped (Err fault) (item_answer most more)
