-- What a call that fails may leave of a stream: the old bytes and the old open lists, and perhaps more.
use Rattle.std.specs.Prelude.{ℕ, ◌≡◌, List, [], ◌∷◌, ◌++◌}
use Rattle.rlp_write.specs.Streams.Stream.{OpenList, State}

-- the same open lists, except for the number of items that the innermost awaits
abbrev pub AreSameAround : List (OpenList ℕ) → List (OpenList ℕ) → Type 0
AreSameAround [] [] = Unit
AreSameAround [] (m ∷ ms) = ⊥
AreSameAround (l ∷ ls) [] = ⊥
AreSameAround (l ∷ ls) (m ∷ ms) = (l.outer ≡ m.outer) × (ls ≡ ms)

-- `Stands payload lists inner more_lists`: the payload, inside its lists, begins the payload in its place in the other stack, innermost or in a list around.
pub data Stands (payload : List ℕ) (lists : List (OpenList ℕ)) : List ℕ → List (OpenList ℕ) → Type 0 where
  here : (more : List ℕ) (same_lists : List (OpenList ℕ)) → AreSameAround lists same_lists → Stands payload lists (payload ++ more) same_lists
  within : (inner : List ℕ) (l : OpenList ℕ) (ls : List (OpenList ℕ)) → Stands payload lists l.outer ls → Stands payload lists inner (l ∷ ls)

-- What a call that fails may do to a state: the new state has the bytes and the open lists of the old state, and perhaps more after them. It has the same front and
-- the same open lists, perhaps with further lists inside. Every payload but the innermost is the same, and the innermost payload is the beginning of the payload in
-- its place. The number of items that the innermost list awaits and `is_counted` may be any.
pub record GrowsTo (old new : State) : Type 0 where
  pub front : new.front ≡ old.front
  pub stands : Stands old.stack.inner old.stack.lists new.stack.inner new.stack.lists
