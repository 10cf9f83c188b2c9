-- Unbounded lists that are finalized, at once or in turn: they are closed like lists that each await their last item.
use Rattle.std.proofs.Common.{◌≡◌, ◌<◌, ◌≤◌, ◌+◌, ℕ, zero, suc, Bool, true, cond, is_none, IsTrue, List, [], ◌∷◌, ◌++◌, Option, None, Some, Ok}
use Rattle.std.proofs.{Common.{replicate, refl, sym, ap, ◌∙◌, append-nil, arith, length, false}, lemmas.Bool.{cond-true, cond_both, leb-false}}
use Rattle.std.proofs.lemmas.List.Elements.{All-from_recursion, recursion_from_All}
use Rattle.rlp_write.specs.Streams.Stream.{OpenList, Stack, count_around, each_awaits, is_unbounded, unbounded_count, finalized, State, list_encoding}
use Rattle.rlp_write.specs.Streams.Stream.{put, count, with_awaiting, with_is_counted, after_from, effect, finalize_unbounded_list, is_admitted}
use Rattle.rlp_write.specs.Streams.Stream.{AwaitsSome, AllAwait, is_last, awaits_after, shut_around, Call, append}
use Rattle.std.specs.List.{AllByRecursion}

abbrev state_with : List ℕ → Stack ℕ → Bool → State
state_with f s m = record { front = f; stack = s; is_counted = m }

-- a count in an unbounded list changes nothing
pub count_unbounded : (p : List ℕ) (ls : List (OpenList ℕ)) → 0 < unbounded_count ls
    → count_around list_encoding 1 p ls ≡ record { inner = p; lists = ls }
count_unbounded p [] some = absurd (let no : 0 < 0 = some in omega arith)
count_unbounded p (l ∷ ls) some = by_awaits l.awaits l.outer some
  where
    by_awaits : (awaits : Option ℕ) (outer : List ℕ) → 0 < unbounded_count (record { awaits = awaits; outer = outer } ∷ ls)
        → count_around list_encoding 1 p (record { awaits = awaits; outer = outer } ∷ ls)
        ≡ record { inner = p; lists = record { awaits = awaits; outer = outer } ∷ ls }
    by_awaits None outer some = refl
    by_awaits (Some n) outer some = absurd (let no : 0 < 0 = some in omega arith)

pub unbounded_around : (l : OpenList ℕ) (ls : List (OpenList ℕ)) (n : ℕ) → suc n ≤ unbounded_count (l ∷ ls) → n ≤ unbounded_count ls
unbounded_around l ls n many = by_awaits l.awaits many
  where
    by_awaits : (awaits : Option ℕ) → suc n ≤ cond (is_none awaits) (suc (unbounded_count ls)) 0 → n ≤ unbounded_count ls
    by_awaits None many = omega (arith, many)
    by_awaits (Some k) many = absurd (omega (arith, many))

-- to finalize the innermost lists, one after another, is to count the one item that the innermost of them awaits, if the others await one too
finalized_by_count : (n : ℕ) (f p : List ℕ) (ls : List (OpenList ℕ)) (m : Bool) → suc n ≤ unbounded_count ls
    → state_with f (count_around list_encoding 1 p (each_awaits (suc n) (Some 1) ls)) true ≡ finalized (suc n) (state_with f (record { inner = p; lists = ls }) m)
finalized_by_count n f p [] m many = absurd (let no : suc n ≤ 0 = many in omega arith)
finalized_by_count zero f p (l ∷ ls) m many = refl
finalized_by_count (suc n) f p (l ∷ ls) m many =
    let payload = l.outer ++ list_encoding p in
    let more = unbounded_around l ls (suc n) many in
    finalized_by_count n f payload ls true more
    ∙ ap (λ s. finalized (suc n) (state_with f s true)) (sym (count_unbounded payload ls (omega (arith, more))))

-- the same over states
pub finalized_at_once : (n : ℕ) (s : State) → 0 < n → n ≤ unbounded_count s.stack.lists
    → with_is_counted true (count 1 (put [] (with_awaiting n (Some 1) s))) ≡ finalized n s
finalized_at_once zero s some many = absurd (let no : 0 < 0 = some in omega arith)
finalized_at_once (suc n) s some many = search (arith, append-nil, finalized_by_count)

restored_by : (n : ℕ) (v w : Option ℕ) (o : List ℕ) (ls : List (OpenList ℕ)) → suc n ≤ unbounded_count (record { awaits = v; outer = o } ∷ ls)
    → (n ≤ unbounded_count ls → each_awaits n None (each_awaits n w ls) ≡ ls)
    → each_awaits (suc n) None (each_awaits (suc n) w (record { awaits = v; outer = o } ∷ ls)) ≡ record { awaits = v; outer = o } ∷ ls
restored_by n v w o ls e f = grind arith

each_restored : (n : ℕ) (w : Option ℕ) (ls : List (OpenList ℕ)) → n ≤ unbounded_count ls → each_awaits n None (each_awaits n w ls) ≡ ls
each_restored zero w ls many = refl
each_restored (suc n) w [] many = refl
each_restored (suc n) w (l ∷ ls) many = restored_by n l.awaits w l.outer ls many (each_restored n w ls)

-- unbounded lists that are made unbounded again are as before
pub awaiting_restored : (n : ℕ) (w : Option ℕ) (s : State) → n ≤ unbounded_count s.stack.lists → with_awaiting n None (with_awaiting n w s) ≡ s
awaiting_restored n w s many = grind (arith, each_restored)

-- only open lists are unbounded
pub unbounded_open : (ls : List (OpenList ℕ)) → unbounded_count ls ≤ length ls
unbounded_open [] = omega arith
unbounded_open (l ∷ ls) = grind (arith, cond_both, unbounded_open ls)

pub length-each_awaits : (n : ℕ) (w : Option ℕ) (ls : List (OpenList ℕ)) → length (each_awaits n w ls) ≡ length ls
length-each_awaits zero w ls = refl
length-each_awaits (suc n) w [] = refl
length-each_awaits (suc n) w (l ∷ ls) = ap suc (length-each_awaits n w ls)

pub ruleset finalizing = (finalized_at_once, awaiting_restored, unbounded_open, length-each_awaits)

-- ---- in turn

unbounded : (l : OpenList ℕ) (ls : List (OpenList ℕ)) → 0 < unbounded_count (l ∷ ls) → IsTrue (is_unbounded (l ∷ ls))
unbounded l ls some = by_awaits l.awaits some
  where
    by_awaits : (awaits : Option ℕ) → 0 < cond (is_none awaits) (suc (unbounded_count ls)) 0
        → IsTrue (is_unbounded (record { awaits = awaits; outer = l.outer } ∷ ls))
    by_awaits None some = refl
    by_awaits (Some k) some = absurd (let no : 0 < 0 = some in omega arith)

counts_left : (n : ℕ) (p : List ℕ) (ls : List (OpenList ℕ)) (s : Stack ℕ) → n ≤ unbounded_count ls
    → (0 < unbounded_count ls → s ≡ record { inner = p; lists = ls }) → n ≤ unbounded_count s.lists
counts_left n p ls s e f = grind arith

-- one more list is finalized, and the others are unbounded
next_by : (n : ℕ) (f p : List ℕ) (ls : List (OpenList ℕ)) (m : Bool) → n < unbounded_count ls
    → IsTrue (is_unbounded ls)
    × (n ≤ unbounded_count (effect finalize_unbounded_list (record { front = f; stack = record { inner = p; lists = ls }; is_counted = m })).stack.lists)
next_by n f p ls m e = grind (arith, unbounded, counts_left, unbounded_around, count_unbounded)

pub finalized-next : (n : ℕ) (s : State) → n < unbounded_count s.stack.lists
    → IsTrue (is_admitted finalize_unbounded_list s) × (n ≤ unbounded_count (effect finalize_unbounded_list s).stack.lists)
finalized-next n s many = next_by n s.front s.stack.inner s.stack.lists s.is_counted many

-- all calls are admitted, and they lead to the same state
pub finalized-in_turn : (n place : ℕ) (s : State) → n ≤ unbounded_count s.stack.lists
    → after_from place s (replicate n finalize_unbounded_list) ≡ Ok (finalized n s)
finalized-in_turn zero place s many = refl
finalized-in_turn (suc n) place s many =
    let next = finalized-next n s (omega (arith, many)) in
    cond-true (is_admitted finalize_unbounded_list s) _ _ next.0
    ∙ finalized-in_turn n (place + 1) (effect finalize_unbounded_list s) next.1

-- ---- a list with an announced number of items is open only while it awaits an item

abbrev Awaits : {A : Type 0} → OpenList A → Type 0
Awaits l = AwaitsSome l.awaits

-- `AllAwait`, by recursion
abbrev Await : {A : Type 0} → List (OpenList A) → Type 0
Await lists = AllByRecursion Awaits lists

-- after a count that closes no list, the list awaits more items
pub await-after : (k : ℕ) (awaits : Option ℕ) → AwaitsSome awaits → is_last k awaits ≡ false → AwaitsSome (awaits_after k awaits)
await-after k awaits e f = grind (arith, leb-false)

await-count : {A : Type 0} (wrap : List A → List A) (k : ℕ) (payload : List A) (lists : List (OpenList A)) → Await lists
    → Await (count_around wrap k payload lists).lists
await-count wrap k payload [] all = tt
await-count {A} wrap k payload (l ∷ ls) (some, all) =
    cond_both (is_last k l.awaits) _ _ (λ (s : Stack A). Await s.lists)
    (λ _. await-count wrap 1 (l.outer ++ wrap payload) ls all)
    (λ open_still. (await-after k l.awaits some open_still, all))

await-shut : {A : Type 0} (wrap : List A → List A) (payload : List A) (lists : List (OpenList A)) → Await lists → Await (shut_around wrap payload lists).lists
await-shut wrap payload lists e = grind arith

await-effect : (c : Call) (s : State) → Await s.stack.lists → Await (effect c s).stack.lists
await-effect c s e = grind (arith, await-count, cond_both, await-shut)

-- no call leaves a list with an announced number of items open that awaits none
pub all_await-effect : (c : Call) (s : State) → AllAwait s.stack.lists → AllAwait (effect c s).stack.lists
all_await-effect c s all =
    All-from_recursion Awaits (effect c s).stack.lists (await-effect c s (recursion_from_All Awaits s.stack.lists all))

pub ruleset awaiting = (all_await-effect)
