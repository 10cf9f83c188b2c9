-- The places of the open lists in a stream's bytes. The placeholders go from the inside out.
use Rattle.std.specs.Prelude.{ℕ, zero, suc, if◌then◌else◌, ◌≡◌, ◌+◌, ◌<◌, ◌≤◌, List, [], ◌∷◌, length, get_or, take, drop, Option, None, Bool, false, is_none}
use Rattle.rlp_write.specs.{declared.open_lists.Placeholder.Placeholder, Streams.Stream.{OpenList, AwaitsSome, is_last}}

-- the place where the innermost payload begins: behind the innermost placeholder, or behind the front
abbrev pub begin_of : ℕ → List Placeholder → ℕ
begin_of start [] = start
begin_of start (p ∷ ps) = p.position + 1

-- the open lists, each with the bytes before it in the payload around it
abbrev pub lists_of : ℕ → List ℕ → List Placeholder → List (OpenList ℕ)
lists_of start b [] = []
lists_of start b (p ∷ ps) = record { awaits = p.awaits; outer = drop (begin_of start ps) (take p.position b) } ∷ lists_of start (take p.position b) ps

-- there is a byte 0 in the place of the list's header, and the list awaits an item if it is bounded
pub record Placed (b : List ℕ) (p : Placeholder) : Type 0 where
  pub within : p.position < length b
  pub placeholder : get_or b p.position 1 ≡ 0
  pub awaits_some : AwaitsSome p.awaits

-- each list is within the bytes before the placeholder of the list inside it, and all lists are behind the front
abbrev pub IsLaid : ℕ → List ℕ → List Placeholder → Type 0
IsLaid start b [] = start ≤ length b
IsLaid start b (p ∷ ps) = Placed b p × IsLaid start (take p.position b) ps

-- only the places: each place is below the place of the list inside it, and all are below the end
abbrev pub Descends : ℕ → List Placeholder → Type 0
Descends end [] = Unit
Descends end (p ∷ ps) = (p.position < end) × Descends p.position ps

-- the lists, with a change of the number of items that the innermost awaits
abbrev pub with_innermost : (Option ℕ → Option ℕ) → List Placeholder → List Placeholder
with_innermost change [] = []
with_innermost change (p ∷ ps) = record p { awaits = change p.awaits } ∷ ps

-- the lists, of which each of the n innermost awaits this number of items
abbrev pub with_awaits : ℕ → Option ℕ → List Placeholder → List Placeholder
with_awaits zero awaits ps = ps
with_awaits (suc n) awaits [] = []
with_awaits (suc n) awaits (p ∷ ps) = record p { awaits = awaits } ∷ with_awaits n awaits ps

-- the number of innermost lists that are unbounded
abbrev pub unbounded_innermost : List Placeholder → ℕ
unbounded_innermost [] = 0
unbounded_innermost (p ∷ ps) = if is_none p.awaits then suc (unbounded_innermost ps) else 0

-- the number of items that the innermost list awaits, if a list is open and it is bounded
abbrev pub innermost_awaits : List Placeholder → Option ℕ
innermost_awaits [] = None
innermost_awaits (p ∷ ps) = p.awaits

-- whether a list is open and the innermost is unbounded
abbrev pub is_innermost_unbounded : List Placeholder → Bool
is_innermost_unbounded [] = false
is_innermost_unbounded (p ∷ ps) = is_none p.awaits

-- whether the count of k items closes the innermost list
abbrev pub closes : ℕ → List Placeholder → Bool
closes k [] = false
closes k (p ∷ ps) = is_last k p.awaits
