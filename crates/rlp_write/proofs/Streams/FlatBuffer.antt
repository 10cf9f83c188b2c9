-- How putting, opening and counting change the state that a stream's bytes represent.
use Rattle.std.proofs.Common.{◌≡◌, ℕ, zero, suc, ◌+◌, ◌≤◌, Bool, true, false, IsTrue, ◌&&◌, cond, List, [], ◌∷◌, ◌++◌, Option, length, get_or, take}
use Rattle.std.proofs.Common.{drop, is_none, refl, sym, ◌∙◌, ap, arith, append_assoc, append-nil, length-append, length-drop, subst}
use Rattle.std.proofs.lemmas.List.{take-take, take-append-le, drop-append-le, take_at, drop_all, drop_more, length-take, length-take-le, length_push, take-append-drop, get_or-take, get_or_append_left}
use Rattle.rlp_write.specs.{contracts.flat.RlpStream.the_view, declared.flat.RlpStream.TheInside.Inside, declared.open_lists.Placeholder.Placeholder}
use Rattle.rlp_write.specs.Streams.Stream.{OpenList, AwaitsSome, awaited, each_awaits, is_last, awaits_after, count_around, is_counted_after, unbounded_count, closed_payload_around}
use Rattle.rlp_write.specs.Streams.Stream.{State, Seen, list_encoding, put, with_list, with_awaiting, count, raw_text, closed_size}
use Rattle.rlp_write.specs.Streams.Placeholders.{begin_of, lists_of, Placed, IsLaid, Descends, closes, innermost_awaits, with_awaits, with_innermost, unbounded_innermost}
use Rattle.rlp_write.specs.{Streams.Closing.{filled, counted, closed_bytes, left_of}, Streams.Layout.{stack_of, state_of}}
use Rattle.rlp_format.specs.Format.Encoding.{written_header}
use Rattle.rlp_write.proofs.{Streams.States.{out_size, raw_text-put, raw_text-with_list, closed_text-count}, Streams.Growth.grows_same, Streams.Finalizing.await-after}
use Rattle.rlp_write.proofs.Streams.Closings.{header_some, counted_closed}

-- ---- places

-- the front ends within the bytes
pub start_le : (start : ℕ) (b : List ℕ) (ps : List Placeholder) → IsLaid start b ps → start ≤ length b
start_le start b [] h = h
start_le start b (p ∷ ps) h = grind (arith, length-take-le, start_le start (take p.position b) ps h.1)

pub begin_le : (start : ℕ) (b : List ℕ) (ps : List Placeholder) → IsLaid start b ps → begin_of start ps ≤ length b
begin_le start b ps e = grind arith

-- the places of the open lists descend from the end of the bytes
pub laid_descends : (start : ℕ) (b : List ℕ) (ps : List Placeholder) → IsLaid start b ps → Descends (length b) ps
laid_descends start b [] h = tt
laid_descends start b (p ∷ ps) h = grind (arith, length-take-le, laid_descends start (take p.position b) ps h.1)

-- so they do from any later end
pub laid_below : (start end : ℕ) (b : List ℕ) (ps : List Placeholder) → IsLaid start b ps → length b ≤ end → Descends end ps
laid_below start end b [] h le = tt
laid_below start end b (p ∷ ps) h le = let d = laid_descends start b (p ∷ ps) h in (omega (arith, d.0), d.1)

-- the bytes before the innermost placeholder begin with the same front
pub below_front : (start : ℕ) (b : List ℕ) (p : Placeholder) (ps : List Placeholder) → IsLaid start b (p ∷ ps) → take start (take p.position b) ≡ take start b
below_front start b p ps h = grind (arith, start_le, take-take, length-take-le)

-- ---- bytes are put

pub lists_append : (start : ℕ) (b x : List ℕ) (ps : List Placeholder) → IsLaid start b ps → lists_of start (b ++ x) ps ≡ lists_of start b ps
lists_append start b x [] h = refl
lists_append start b x (p ∷ ps) h = grind (arith, take-append-le)

module _ (start : ℕ) (b x c : List ℕ) (ps : List Placeholder) (h : IsLaid start b ps) (e : c ≡ b ++ x) where
  pub front_put : take start c ≡ take start b
  front_put = rw (e, take-append-le start b x (start_le start b ps h)) refl

  pub inner_put : drop (begin_of start ps) c ≡ drop (begin_of start ps) b ++ x
  inner_put = rw (e, drop-append-le (begin_of start ps) b x (begin_le start b ps h)) refl

  pub lists_put : lists_of start c ps ≡ lists_of start b ps
  lists_put = rw (e, lists_append start b x ps h) refl

  -- bytes at the end of the buffer are put in the state
  state_put : (m : Bool) → state_of start c ps m ≡ put x (state_of start b ps m)
  state_put m = rw (front_put, inner_put, lists_put) refl

placed_append : (b x : List ℕ) (p : Placeholder) → Placed b p → Placed (b ++ x) p
placed_append b x p h = grind (arith, length-append, get_or_append_left)

-- with more bytes at the end, the layout of the open lists is as before
pub laid_append : (start : ℕ) (b x : List ℕ) (ps : List Placeholder) → IsLaid start b ps → IsLaid start (b ++ x) ps
laid_append start b x [] h = omega (arith, length-append b x, h)
laid_append start b x (p ∷ ps) h =
    let within = h.0.within in
    (placed_append b x p h.0, rw (take-append-le p.position b x (omega arith)) h.1)

-- so it is with fewer bytes, if the innermost payload still begins in them
pub laid_take : (n start : ℕ) (b : List ℕ) (ps : List Placeholder) → begin_of start ps ≤ n → IsLaid start b ps → IsLaid start (take n b) ps
laid_take n start b ps e f = grind (arith, length-take, get_or-take, take-take)

-- ---- the bytes are those of the state

-- the state's raw text is all bytes
pub raw_state : (start : ℕ) (b : List ℕ) (ps : List Placeholder) → IsLaid start b ps → raw_text (state_of start b ps false) ≡ b
raw_state start b [] h = ap (λ t. take start b ++ t) (append-nil (drop start b)) ∙ take-append-drop start b
raw_state start b (p ∷ ps) h =
    let around = state_of start (take p.position b) ps false in
    let behind = drop (p.position + 1) b in
    let inside = put behind (with_list p.awaits around) in
    let same : raw_text inside ≡ raw_text (state_of start b (p ∷ ps) false) = rw (below_front start b p ps h) refl in
    let within = h.0.within in
    sym same ∙ raw_text-put behind (with_list p.awaits around) ∙ ap (λ c. c ++ behind) (raw_text-with_list p.awaits around)
    ∙ append_assoc (raw_text around) (0 ∷ []) behind ∙ ap (λ c. c ++ (0 ∷ behind)) (raw_state start (take p.position b) ps h.1)
    ∙ sym (ap (λ c. take p.position b ++ c) (drop_more b p.position 1 within ∙ ap (λ x. x ∷ behind) h.0.placeholder)) ∙ take-append-drop p.position b

-- ---- items are counted

-- what is left once all lists that a count fills are closed, if `tail` was put after the bytes b
record Counts (k start : ℕ) (b tail : List ℕ) (ps : List Placeholder) (c : List ℕ) (qs : List Placeholder) : Type 0 where
  front : take start c ≡ take start b
  laid : IsLaid start c qs
  stack : stack_of start c qs ≡ count_around list_encoding k (drop (begin_of start ps) b ++ tail) (lists_of start b ps)

laid_counts_by : (full : Bool) (k start : ℕ) (b tail : List ℕ) (p : Placeholder) (ps : List Placeholder) → is_last k p.awaits ≡ full → IsLaid start b (p ∷ ps)
    → Counts 1 start (take p.position b) (list_encoding (drop (p.position + 1) b ++ tail)) ps
    (closed_bytes (filled 1 ps) (take p.position b) (list_encoding (drop (p.position + 1) b ++ tail)) ps) (counted 1 ps)
    → Counts k start b tail (p ∷ ps) (closed_bytes (filled k (p ∷ ps)) b tail (p ∷ ps)) (counted k (p ∷ ps))
laid_counts_by true k start b tail p ps e h r =
    rw e (record { front = r.front ∙ below_front start b p ps h; laid = r.laid; stack = rw e r.stack })
laid_counts_by false k start b tail p ps e h r =
    let within = h.0.within in
    let q : Placeholder = record { position = p.position; awaits = awaits_after k p.awaits } in
    let placed : Placed b q = record { within = within; placeholder = h.0.placeholder; awaits_some = await-after k p.awaits h.0.awaits_some e } in
    rw e (record {
      front = take-append-le start b tail (start_le start b (p ∷ ps) h);
      laid = laid_append start b tail (q ∷ ps) (placed, h.1);
      stack = rw (e, drop-append-le (p.position + 1) b tail (omega arith), take-append-le p.position b tail (omega arith)) refl;
    })

laid_counts : (k start : ℕ) (b tail : List ℕ) (ps : List Placeholder) → IsLaid start b ps
    → Counts k start b tail ps (closed_bytes (filled k ps) b tail ps) (counted k ps)
laid_counts k start b tail [] h =
    record { front = take-append-le start b tail h; laid = laid_append start b tail [] h; stack = rw (drop-append-le start b tail h) refl }
laid_counts k start b tail (p ∷ ps) h =
    laid_counts_by (is_last k p.awaits) k start b tail p ps refl h
    (laid_counts 1 start (take p.position b) (list_encoding (drop (p.position + 1) b ++ tail)) ps h.1)

-- ---- the test whether a count closes a list

-- what the placeholders tell is what the state tells
closes_state : (k start : ℕ) (b : List ℕ) (ps : List Placeholder) → is_counted_after k (lists_of start b ps) false ≡ closes k ps
closes_state k start b ps = grind arith

-- ---- the number of bytes

-- the number of bytes of a payload and of what is around it, behind the front
abbrev pub bytes_around : List ℕ → List (OpenList ℕ) → ℕ
bytes_around p [] = length p
bytes_around p (l ∷ ls) = bytes_around l.outer ls + suc (length p)

-- that is all bytes behind the front
pub laid_bytes : (start : ℕ) (b : List ℕ) (ps : List Placeholder) → IsLaid start b ps
    → length b ≡ start + bytes_around (drop (begin_of start ps) b) (lists_of start b ps)
laid_bytes start b [] h = omega (arith, length-drop start b, h)
laid_bytes start b (p ∷ ps) h = grind (arith, length-take-le, length-drop, laid_bytes start (take p.position b) ps h.1)

pub bytes_longer : (p x : List ℕ) (ls : List (OpenList ℕ)) → bytes_around (p ++ x) ls ≡ bytes_around p ls + length x
bytes_longer p x [] = length-append p x
bytes_longer p x (l ∷ ls) = omega (arith, length-append p x)

-- closing removes no byte
pub bytes_closed : (p : List ℕ) (ls : List (OpenList ℕ)) → bytes_around p ls ≤ length (closed_payload_around list_encoding p ls)
bytes_closed p [] = omega arith
bytes_closed p (l ∷ ls) = grind (arith, bytes_longer, length-append, header_some, bytes_closed (l.outer ++ list_encoding p) ls)

-- of no bytes it makes none
pub none_closed : (p : List ℕ) (ls : List (OpenList ℕ)) → bytes_around p ls ≡ 0 → length (closed_payload_around list_encoding p ls) ≡ 0
none_closed p [] e = e
none_closed p (l ∷ ls) e = absurd (omega (arith, e))

-- the places are behind the front
pub left_behind : (n start : ℕ) (b : List ℕ) (ps : List Placeholder) → IsLaid start b ps → start ≤ left_of n (length b) ps
left_behind zero start b ps h = start_le start b ps h
left_behind (suc n) start b [] h = h
left_behind (suc n) start b (p ∷ ps) h = grind (arith, length-take-le, left_behind n start (take p.position b) ps h.1)

-- ---- what lists await

-- lists that await something else have the same layout
pub laid_awaits : (n : ℕ) (w : Option ℕ) → AwaitsSome w → (start : ℕ) (b : List ℕ) (ps : List Placeholder) → IsLaid start b ps
    → IsLaid start b (with_awaits n w ps)
laid_awaits zero w some start b ps h = h
laid_awaits (suc n) w some start b [] h = h
laid_awaits (suc n) w some start b (p ∷ ps) h = grind (arith, laid_awaits n w some start (take p.position b) ps h.1)

pub begin_awaits : (n : ℕ) (w : Option ℕ) (start : ℕ) (ps : List Placeholder) → begin_of start (with_awaits n w ps) ≡ begin_of start ps
begin_awaits n w start ps = grind arith

pub lists_awaits : (n : ℕ) (w : Option ℕ) (start : ℕ) (b : List ℕ) (ps : List Placeholder)
    → lists_of start b (with_awaits n w ps) ≡ each_awaits n w (lists_of start b ps)
lists_awaits zero w start b ps = refl
lists_awaits (suc n) w start b [] = refl
lists_awaits (suc n) w start b (p ∷ ps) =
    let rest = take p.position b in
    let first : List (OpenList ℕ) → ℕ → List (OpenList ℕ) = λ ls begin. record { awaits = w; outer = drop begin rest } ∷ ls in
    ap (λ ls. first ls (begin_of start (with_awaits n w ps))) (lists_awaits n w start rest ps)
    ∙ ap (λ begin. first (each_awaits n w (lists_of start rest ps)) begin) (begin_awaits n w start ps)

pub state_awaits : (n : ℕ) (w : Option ℕ) (start : ℕ) (b : List ℕ) (ps : List Placeholder) (m : Bool)
    → state_of start b (with_awaits n w ps) m ≡ with_awaiting n w (state_of start b ps m)
state_awaits n w start b ps m = grind (arith, begin_awaits, lists_awaits)

-- the number of open lists is the number of places
pub length-lists_of : (start : ℕ) (b : List ℕ) (ps : List Placeholder) → length (lists_of start b ps) ≡ length ps
length-lists_of start b [] = refl
length-lists_of start b (p ∷ ps) = ap suc (length-lists_of start (take p.position b) ps)

-- the open lists that are unbounded are those with such a placeholder
pub unbounded_lists : (start : ℕ) (b : List ℕ) (ps : List Placeholder) → unbounded_count (lists_of start b ps) ≡ unbounded_innermost ps
unbounded_lists start b [] = refl
unbounded_lists start b (p ∷ ps) = ap (λ n. cond (is_none p.awaits) (suc n) 0) (unbounded_lists start (take p.position b) ps)

-- ---- bytes and places that stand for a state

-- they are laid, and this is the state
pub record StandsFor (s : State) (start : ℕ) (b : List ℕ) (ps : List Placeholder) (m : Bool) : Type 0 where
  pub laid : IsLaid start b ps
  pub is : state_of start b ps m ≡ s

-- its bytes and places stand for its state
pub stands : (i : Inside) (v : Seen) → the_view i ≡ v → IsLaid i.start i.buffer.items i.lists → StandsFor v.state i.start i.buffer.items i.lists i.is_counted
stands i v e laid = record { laid = laid; is = ap (λ (w : Seen). w.state) e }

-- bytes at the end are put in the state
pub stands_put : {s : State} {start : ℕ} {b : List ℕ} {ps : List Placeholder} {m : Bool} → StandsFor s start b ps m
    → (x c : List ℕ) → c ≡ b ++ x → StandsFor (put x s) start c ps m
stands_put {s} {start} {b} {ps} {m} h x c e =
    record { laid = rw e (laid_append start b x ps h.laid); is = state_put start b x c ps h.laid e m ∙ ap (put x) h.is }

and_yes : (m a : Bool) → a ≡ true → (m && a) ≡ m
and_yes m a e = grind arith

and_no : (m a : Bool) → ¬ (a ≡ true) → (m && a) ≡ false
and_no m a e = grind arith

-- a count that closes no list
pub stands_within : (s : State) (start : ℕ) (b : List ℕ) (ps : List Placeholder) (m : Bool) → StandsFor s start b ps m
    → (k : ℕ) (alone : Bool) (qs : List Placeholder) → closes k ps ≡ false → qs ≡ with_innermost (awaits_after k) ps
    → (IsTrue alone → qs ≡ []) × (qs ≡ [] → IsTrue alone) → StandsFor (count k s) start b qs (m && alone)
stands_within s start b [] m h k alone qs none e lone = grind (arith, and_yes)
stands_within s start b (p ∷ ps) m h k alone qs none e lone = grind (arith, await-after, and_no)

-- a count that closes lists, all at once
stands_closed : {s : State} {start : ℕ} {b : List ℕ} {ps : List Placeholder} {m : Bool} → StandsFor s start b ps m
    → (k : ℕ) (c : List ℕ) (qs : List Placeholder) → closes k ps ≡ true → c ≡ closed_bytes (filled k ps) b [] ps
    → qs ≡ counted k ps → StandsFor (count k s) start c qs true
stands_closed {s} {start} {b} {ps} {m} h k c qs closing e f =
    let r = laid_counts k start b [] ps h.laid in
    let stack = r.stack ∙ ap (λ p. count_around list_encoding k p (lists_of start b ps)) (append-nil (drop (begin_of start ps) b)) in
    let now : state_of start (closed_bytes (filled k ps) b [] ps) (counted k ps) true ≡ count k (state_of start b ps m) =
    rw (r.front, stack, counts_closed ps m closing) refl in
    record { laid = rw (e, f) r.laid; is = rw (e, f) (now ∙ ap (count k) h.is) }
  where
    counts_closed : (ps : List Placeholder) (m : Bool) → closes k ps ≡ true → is_counted_after k (lists_of start b ps) m ≡ true
    counts_closed [] m never = absurd (let no : ⊥ = cc in no)
    counts_closed (p ∷ ps) m full = full

-- after bytes were put, with room behind them for the headers
pub stands_filled : {s : State} {start : ℕ} {b : List ℕ} {ps : List Placeholder} {m : Bool} → StandsFor s start b ps m
    → (k : ℕ) (x grown : List ℕ) {long after : List ℕ} {end closing : ℕ} {rest last : List Placeholder}
    → is_counted_after k s.stack.lists false ≡ true → long ≡ b ++ x → end ≡ length long → take (length long) grown ≡ long
    → closing ≡ filled k ps → after ≡ closed_bytes closing (take end grown) [] ps → rest ≡ drop closing ps → last ≡ with_innermost (awaits_after 1) rest
    → StandsFor (count k (put x s)) start after last true
stands_filled {s} {start} {b} {ps} {m} h k x grown {long} {after} {end} {closing} {rest} {last} closes_some whole len front number bytes left counts =
    let full : closes k ps ≡ true = sym (closes_state k start b ps) ∙ ap (λ (t : State). is_counted_after k t.stack.lists false) h.is ∙ closes_some in
    let first : take end grown ≡ b ++ x = ap (λ n. take n grown) len ∙ front ∙ whole in
    stands_closed (stands_put h x (b ++ x) refl) k after last full
    (bytes ∙ ap (λ n. closed_bytes n (take end grown) [] ps) number ∙ ap (λ c. closed_bytes (filled k ps) c [] ps) first)
    (counts ∙ ap (with_innermost (awaits_after 1)) (left ∙ ap (λ n. drop n ps) number) ∙ sym (counted_closed k ps full))

-- what the innermost lists await is changed
pub stands_awaiting : {s : State} {start : ℕ} {b : List ℕ} {ps : List Placeholder} {m : Bool} → StandsFor s start b ps m
    → (n : ℕ) (awaits : Option ℕ) (qs : List Placeholder) → AwaitsSome awaits → qs ≡ with_awaits n awaits ps
    → StandsFor (with_awaiting n awaits s) start b qs m
stands_awaiting {s} {start} {b} {ps} {m} h n awaits qs some e =
    record { laid = rw e (laid_awaits n awaits some start b ps h.laid); is = rw e (state_awaits n awaits start b ps m ∙ ap (with_awaiting n awaits) h.is) }

-- if a count moves bytes behind the front alone, and each once, it moves at most the closed size
pub stands_moved : {s : State} {start : ℕ} {b : List ℕ} {ps : List Placeholder} {m : Bool} → StandsFor s start b ps m
    → (k n old new end : ℕ) (x long : List ℕ) → long ≡ b ++ x → end ≡ length long → new + left_of n end ps ≤ old + end
    → new ≤ old + closed_size (count k (put x s))
stands_moved {s} {start} {b} {ps} {m} h k n old new end x long whole len moved =
    let put_in = stands_put h x long whole in
    let now = state_of start long ps m in
    let all = laid_bytes start long ps put_in.laid in
    let front = left_behind n start long ps put_in.laid in
    let most = bytes_closed now.stack.inner now.stack.lists in
    subst (λ t. new ≤ old + closed_size (count k t)) put_in.is
    (omega (arith, moved, ap (λ e. left_of n e ps) len, len, all, front, most, ap length (closed_text-count k now)))

-- ---- for the calls of a stream

-- a byte 0 at the end is a new list
pub opened_rest : (b c : List ℕ) (position : ℕ) → position ≡ length b → c ≡ b ++ 0 ∷ [] → take position c ≡ b
opened_rest b c position at e = rw (e, take_at b (0 ∷ []) position (sym at)) refl

pub opened_inner : (b c : List ℕ) (position : ℕ) → position ≡ length b → c ≡ b ++ 0 ∷ [] → drop (position + 1) c ≡ []
opened_inner b c position at e = rw e (drop_all (position + 1) (b ++ 0 ∷ []) (omega (arith, length_push b 0)))

-- the innermost list awaits what its place says
pub innermost_awaited : (start : ℕ) (b : List ℕ) (ps : List Placeholder) → awaited (lists_of start b ps) ≡ innermost_awaits ps
innermost_awaited start b ps = grind arith

-- with no list open, the bytes are the front and the top
pub all_of_finished : (start : ℕ) (b : List ℕ) (ps : List Placeholder) → lists_of start b ps ≡ [] → take start b ++ drop (begin_of start ps) b ≡ b
all_of_finished start b ps e = grind (arith, take-append-drop)

-- and their number is that of the front and the closed size
pub size_of_finished : (start : ℕ) (b : List ℕ) (ps : List Placeholder) → lists_of start b ps ≡ [] → length b ≡ length (take start b) + closed_size (state_of start b ps false)
size_of_finished start b ps none = ap length (sym (all_of_finished start b ps none)) ∙ out_size (state_of start b ps false) none

-- the innermost lists await something else
pub begin_changed : (n : ℕ) (w : Option ℕ) (start : ℕ) (ps qs : List Placeholder) → qs ≡ with_awaits n w ps → begin_of start qs ≡ begin_of start ps
begin_changed n w start ps qs e = rw e (begin_awaits n w start ps)

pub lists_changed : (n : ℕ) (w : Option ℕ) (start : ℕ) (b : List ℕ) (ps qs : List Placeholder) → qs ≡ with_awaits n w ps
    → lists_of start b qs ≡ each_awaits n w (lists_of start b ps)
lists_changed n w start b ps qs e = rw e (lists_awaits n w start b ps)

pub ruleset puts = (laid_append, front_put, inner_put, lists_put, grows_same)

pub ruleset opens = (front_put, opened_rest, opened_inner)

pub ruleset places = (raw_state, length-lists_of, innermost_awaited)

pub ruleset awaits = (length-lists_of, laid_awaits, begin_changed, lists_changed)

pub ruleset clears = (start_le, length-take-le)

pub ruleset empties = (laid_bytes, bytes_closed, none_closed)

pub ruleset finishes = (all_of_finished, size_of_finished)

pub ruleset closings = (length-append, laid_below, stands, stands_filled, stands_moved)
