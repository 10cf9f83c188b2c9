-- Values that are appended one after another, as the fields of a struct are.
use Rattle.std.specs.Prelude.{◌≡◌, ◌++◌, ◌∷◌, List}
use Rattle.rlp_format.specs.Format.Encoding.{Item}
use Rattle.rlp_write.specs.Streams.Stream.{State, add_all}

-- some of the items were appended, and not the last
pub record AppendsSome (items : List Item) (old new : State) : Type 0 where
  pub before : List Item
  pub next : Item
  pub after : List Item
  pub all : items ≡ before ++ next ∷ after
  pub is : new ≡ add_all before old
