-- Going back to the state before a call. The stream grew from that state, so its bytes and its open lists are still there, but the innermost list may await another
-- number of items.
use Rattle.std.proofs.Common.{◌≡◌, ◌+◌, ◌-◌, ◌≤◌, ℕ, suc, Bool, List, [], ◌∷◌, ◌++◌, length, get_or, take, drop, Option, refl, sym, ap, ◌∙◌, subst, arith, length-append, length-drop, take-append-drop}
use Rattle.std.proofs.lemmas.List.{length-take-le, take-take, take_at, drop-take}
use Rattle.rlp_write.specs.{declared.open_lists.Placeholder.Placeholder, declared.flat.Place.Place}
use Rattle.rlp_write.specs.Streams.Stream.{OpenList, AwaitsSome, awaited, each_awaits, State, raw_text}
use Rattle.rlp_write.specs.{Streams.Growth.{AreSameAround, Stands, GrowsTo}, Streams.Growth.Stands.{here, within}, Streams.Places.place_of}
use Rattle.rlp_write.specs.{Streams.Placeholders.{begin_of, lists_of, IsLaid, with_awaits, with_innermost}, Streams.Layout.state_of}
use Rattle.rlp_write.proofs.Streams.FlatBuffer.{begin_le, bytes_around, bytes_longer, laid_bytes, laid_take, lists_append, length-lists_of, raw_state, StandsFor, stands_awaiting}
use Rattle.rlp_write.proofs.Streams.Finalizing.{length-each_awaits}

-- apart from what the innermost awaits, the lists are the same
same_again : (ls ms : List (OpenList ℕ)) → AreSameAround ls ms → each_awaits 1 (awaited ls) ms ≡ ls
same_again ls ms e = grind arith

bytes_awaits : (w : Option ℕ) (p : List ℕ) (ms : List (OpenList ℕ)) → bytes_around p (each_awaits 1 w ms) ≡ bytes_around p ms
bytes_awaits w p ms = grind arith

-- the first bytes, and the lists that are open there, stand for a payload within its lists
record GoesBack (start : ℕ) (p : List ℕ) (ls : List (OpenList ℕ)) (c : List ℕ) (qs : List Placeholder) : Type 0 where
  k : ℕ
  few : start + bytes_around p ls ≤ length c
  lists_left : k + length ls ≡ length qs
  laid : IsLaid start (take (start + bytes_around p ls) c) (drop k qs)
  inner : drop (begin_of start (drop k qs)) (take (start + bytes_around p ls) c) ≡ p
  lists : each_awaits 1 (awaited ls) (lists_of start (take (start + bytes_around p ls) c) (drop k qs)) ≡ ls

-- a payload that grew in its place
back_here : (start : ℕ) (p : List ℕ) (ls : List (OpenList ℕ)) (more c : List ℕ) (qs : List Placeholder) → IsLaid start c qs
    → p ++ more ≡ drop (begin_of start qs) c → AreSameAround ls (lists_of start c qs) → GoesBack start p ls c qs
back_here start p ls more c qs h is same =
    let n : ℕ = start + bytes_around p ls in
    let begin = begin_of start qs in
    let ms = lists_of start c qs in
    let again = same_again ls ms same in
    let low = begin_le start c qs h in
    let around : bytes_around p ls ≡ bytes_around p ms = ap (bytes_around p) (sym again) ∙ bytes_awaits (awaited ls) p ms in
    let size : length c ≡ n + length more =
    omega (arith, laid_bytes start c qs h, ap (λ q. bytes_around q ms) is, bytes_longer p more ms, around) in
    let ends : n ≡ begin + length p = omega (arith, size, low, length-drop begin c, ap length is, length-append p more) in
    let laid = laid_take n start c qs (omega (arith, ends)) h in
    let kept : lists_of start (take n c) qs ≡ ms =
    sym (lists_append start (take n c) (drop n c) qs laid) ∙ ap (λ b. lists_of start b qs) (take-append-drop n c) in
    record {
      k = 0;
      few = omega (arith, size);
      lists_left = omega (arith, ap length again, length-each_awaits 1 (awaited ls) ms, length-lists_of start c qs);
      laid = laid;
      inner = ap (λ e. drop begin (take e c)) ends ∙ drop-take begin (length p) c ∙ ap (take (length p)) (sym is) ∙ take_at p more (length p) refl;
      lists = ap (each_awaits 1 (awaited ls)) kept ∙ again;
    }

back_step : (start : ℕ) (p : List ℕ) (ls : List (OpenList ℕ)) {inner : List ℕ} {ms : List (OpenList ℕ)} → Stands p ls inner ms
    → (c : List ℕ) (qs : List Placeholder) → IsLaid start c qs → inner ≡ drop (begin_of start qs) c → ms ≡ lists_of start c qs → GoesBack start p ls c qs
back_step start p ls (here more ms same) c qs h i e = back_here start p ls more c qs h i (subst (λ z. AreSameAround ls z) e same)
back_step start p ls (within inner l ms st) c [] h i e = absurd (let never : l ∷ ms ≡ [] = e in let no : ⊥ = cc in no)
back_step start p ls (within inner l ms st) c (q ∷ qs) h i e =
    let r = back_step start p ls st (take q.position c) qs h.1 (ap (λ (ls : List (OpenList ℕ)). (get_or ls 0 l).outer) e) (ap (drop 1) e) in
    let inside = h.0.within in
    let low = r.few in
    let len : length (take q.position c) ≡ q.position = length-take-le q.position c (omega arith) in
    let first = take-take (start + bytes_around p ls) q.position c (omega arith) in
    record {
      k = suc r.k;
      few = omega arith;
      lists_left = omega (arith, r.lists_left);
      laid = rw first at r.laid;
      inner = rw first at r.inner;
      lists = rw first at r.lists;
    }

with_innermost_is : (w : Option ℕ) (ps : List Placeholder) → with_innermost (λ _. w) ps ≡ with_awaits 1 w ps
with_innermost_is w ps = grind arith

-- a stream that goes back to the place of a state from which it grew has that state again
pub stands_back : (s t : State) (start : ℕ) (c : List ℕ) (qs : List Placeholder) (m : Bool) → StandsFor t start c qs m → GrowsTo s t
    → (place : Place) → place ≡ place_of s → AwaitsSome place.awaits
    → (d : List ℕ) (rs : List Placeholder) → d ≡ take place.len c → rs ≡ with_innermost (λ _. place.awaits) (drop (length qs - place.open_count) qs)
    → StandsFor s start d rs place.is_counted
stands_back s t start c qs m now grown place at some d rs cut kept =
    let inner = ap (λ (u : State). u.stack.inner) (sym now.is) in
    let lists = ap (λ (u : State). u.stack.lists) (sym now.is) in
    let r = back_step start s.stack.inner s.stack.lists grown.stands c qs now.laid inner lists in
    let n : ℕ = start + bytes_around s.stack.inner s.stack.lists in
    let awaits : place.awaits ≡ awaited s.stack.lists = ap (λ (q : Place). q.awaits) at in
    let counted = ap (λ (q : Place). q.is_counted) at in
    let ps = with_awaits 1 (awaited s.stack.lists) (drop r.k qs) in
    let kept_lists : StandsFor (state_of start (take n c) (drop r.k qs) s.is_counted) start (take n c) (drop r.k qs) s.is_counted =
    record { laid = r.laid; is = refl } in
    let open_here = stands_awaiting kept_lists 1 (awaited s.stack.lists) ps (subst AwaitsSome awaits some) refl in
    let front : take start (take n c) ≡ s.front =
    take-take start n c (omega arith) ∙ ap (λ (u : State). u.front) now.is ∙ grown.front in
    let is : state_of start (take n c) ps s.is_counted ≡ s = open_here.is ∙ rw (front, r.inner, r.lists) refl in
    let len : place.len ≡ n = omega (
      arith,
      ap (λ (q : Place). q.len) at,
      ap length (raw_state start (take n c) ps open_here.laid),
      ap (λ (u : State). length (raw_text u)) is,
      length-take-le n c r.few,
    ) in
    let bytes : d ≡ take n c = cut ∙ ap (λ k. take k c) len in
    let number : length qs - place.open_count ≡ r.k = omega (arith, ap (λ (q : Place). q.open_count) at, r.lists_left) in
    let places : rs ≡ ps = kept ∙ ap (λ k. with_innermost (λ _. place.awaits) (drop k qs)) number ∙ with_innermost_is place.awaits (drop r.k qs)
    ∙ ap (λ w. with_awaits 1 w (drop r.k qs)) awaits in
    record { laid = rw (bytes, places) open_here.laid; is = rw (bytes, places, counted) is }

-- which `is_counted` a stream has doesn't matter for what it grows to
pub grown_uncounted : (s t u : State) (m : Bool) → u ≡ record s { is_counted = m } → GrowsTo u t → GrowsTo s t
grown_uncounted s t u m e g = grind arith
