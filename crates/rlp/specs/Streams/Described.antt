-- The items that calls of a stream describe, without bytes.
use Rattle.std.specs.Prelude.{ℕ, suc, ◌≡◌, List, [], ◌∷◌, ◌++◌, Ok, length, map, All, Option, None, Some, IsTrue, not}
use Rattle.rlp_format.specs.Format.Encoding.{Item, string, list_of, join, IsSized}
use Rattle.rlp_write.specs.{Streams.Stream.{OpenList, Stack, empty_stack, stack_put, stack_with_list, stack_shut, stack_count, State, initial_state, IsFinished}}
use Rattle.rlp_write.specs.Streams.Stream.{Call, append, append_empty_data, append_raw, append_raw_checked, begin_list, begin_unbounded_list}
use Rattle.rlp_write.specs.Streams.Stream.{finalize_unbounded_list, append_internal, clear, effect, is_admitted, is_within_size, after}

-- What a call does to the items: it adds some, opens a list, closes a list, drops all, or does nothing.
pub data Step : Type 0 where
  brings : List Item → Step
  opens : Option ℕ → Step
  finishes : Step
  clears : Step
  stays : Step

-- the items of a closed list are one item of the list around it
abbrev pub one_list : List Item → List Item
one_list items = list_of items ∷ []

-- the items after a step: the moves of a stream, over items instead of bytes
abbrev pub items_after : Step → Stack Item → Stack Item
items_after (brings xs) s = stack_count one_list (length xs) (stack_put xs s)
items_after (opens awaits) s = stack_with_list awaits s
items_after finishes s = stack_count one_list 1 (stack_shut one_list s)
items_after clears s = empty_stack
items_after stays s = s

-- the items after all steps
abbrev pub items_after_all : List Step → Stack Item → Stack Item
items_after_all [] s = s
items_after_all (m ∷ ms) s = items_after_all ms (items_after m s)

-- Which step a call is in the state s. Raw bytes add items if they are the joined encodings of the announced number of items, and P holds for each. A checked call
-- with raw bytes does nothing if the closed size is too large. Strings that are written without being counted aren't described.
pub data DescribesWhere (P : Item → Type 0) (s : State) : Call → Step → Type 0 where
  by_append : (x : Item) → DescribesWhere P s (append x) (brings (x ∷ []))
  by_empty_data : DescribesWhere P s append_empty_data (brings (string [] ∷ []))
  by_raw : (xs : List Item) → All IsSized xs → All P xs → DescribesWhere P s (append_raw (join xs) (length xs)) (brings xs)
  by_checked_raw : (xs : List Item) (limit : ℕ) → All IsSized xs → All P xs → IsTrue (is_within_size (join xs) limit s)
      → DescribesWhere P s (append_raw_checked (join xs) (length xs) limit) (brings xs)
  by_refused_raw : (bytes : List ℕ) (k limit : ℕ) → IsTrue (not (is_within_size bytes limit s)) → DescribesWhere P s (append_raw_checked bytes k limit) stays
  by_empty_list : DescribesWhere P s (begin_list 0) (brings (list_of [] ∷ []))
  by_list : (n : ℕ) → DescribesWhere P s (begin_list (suc n)) (opens (Some (suc n)))
  by_unbounded_list : DescribesWhere P s begin_unbounded_list (opens None)
  by_finalize : DescribesWhere P s finalize_unbounded_list finishes
  by_internal_list : (xs : List Item) → DescribesWhere P s (append_internal (list_of xs)) (brings (list_of xs ∷ []))
  by_clear : DescribesWhere P s clear clears

-- from the state s on each call is admitted, and is the step in its place
abbrev pub AreDescribedWhere : (Item → Type 0) → State → List Call → List Step → Type 0
AreDescribedWhere P s [] [] = Unit
AreDescribedWhere P s [] (m ∷ ms) = ⊥
AreDescribedWhere P s (c ∷ cs) [] = ⊥
AreDescribedWhere P s (c ∷ cs) (m ∷ ms) = IsTrue (is_admitted c s) × DescribesWhere P s c m × AreDescribedWhere P (effect c s) cs ms

-- the calls over the front describe these items, and leave no list open
pub record IsDescribedWhere (P : Item → Type 0) (front : List ℕ) (calls : List Call) (items : List Item) : Type 0 where
  pub steps : List Step
  pub described : AreDescribedWhere P (initial_state front) calls steps
  pub finished : items_after_all steps empty_stack ≡ record { inner = items; lists = [] }

-- a fact that holds for every item
abbrev pub IsAny : Item → Type 0
IsAny x = Unit

-- which step a call is, if raw bytes may add any items
abbrev pub Describes : State → Call → Step → Type 0
Describes s c m = DescribesWhere IsAny s c m

-- from the state s on each call is admitted, and is the step in its place, if raw bytes may add any items
abbrev pub AreDescribed : State → List Call → List Step → Type 0
AreDescribed s calls steps = AreDescribedWhere IsAny s calls steps

-- the calls over the front describe these items, and leave no list open, if raw bytes may add any items
abbrev pub IsDescribed : List ℕ → List Call → List Item → Type 0
IsDescribed front calls items = IsDescribedWhere IsAny front calls items

-- all calls over the front are admitted and leave no list open, and the finished buffer is these bytes: the front and the payload of the top
pub record FinishAs (front : List ℕ) (calls : List Call) (bytes : List ℕ) : Type 0 where
  pub last : State
  pub admitted : after front calls ≡ Ok last
  pub closed : IsFinished last
  pub buffer : bytes ≡ front ++ last.stack.inner

-- an open list, with the joined encodings of its items as its payload
abbrev pub joined_list : OpenList Item → OpenList ℕ
joined_list l = record { awaits = l.awaits; outer = join l.outer }

-- a stack of items as bytes
abbrev pub joined_stack : Stack Item → Stack ℕ
joined_stack s = record { inner = join s.inner; lists = map joined_list s.lists }
