-- What closing does, step by step, and the state after counting.
use Rattle.std.proofs.Common.{◌≡◌, ℕ, zero, suc, ◌+◌, ◌-◌, ◌*◌, ◌<◌, ◌≤◌, Bool, true, min, List, [], ◌∷◌, ◌++◌, length, take, drop, reverse, get_or, length-set}
use Rattle.std.proofs.Common.{set, Option, refl, sym, ◌∙◌, ap, arith, length-append, length-drop, take-append-drop}
use Rattle.std.proofs.lemmas.Bool.{cases_lt, cond-true}
use Rattle.std.proofs.lemmas.List.{take-take, drop_at, drop-drop, drop-take, length-take-le, set_at, take-append-drop, reverse-append, length-reverse}
use Rattle.std.proofs.lemmas.List.{get_or-reverse, set-append_left, take-set-le, take-append-le, get_or-take, drop_more, append_assoc}
use Rattle.std.proofs.{Math.ListN.{set, get_or}, Math.Seq.take-add, lemmas.Slice.{take-put_mid, drop-put_mid}, lemmas.Grind.drop-set_at}
use Rattle.rlp_write.specs.{declared.open_lists.Placeholder.Placeholder, Streams.Stream.{is_last, awaits_after, list_encoding}}
use Rattle.rlp_write.specs.Streams.Placeholders.{Descends, closes, with_innermost, with_awaits, unbounded_innermost}
use Rattle.rlp_write.specs.Streams.Closing.{filled, counted, closed_bytes, header_len, growth}
use Rattle.rlp_format.specs.Format.Encoding.{written_header}
use Rattle.rlp_format.proofs.Lemmas.Headers.{written_header_short, written_header_long}
use borrow.Rule.Slice.PartMut.{put_mid}

-- the bytes before a place stay, and these come behind them
pub record Follows (n : ℕ) (old behind new : List ℕ) : Type 0 where
  pub front : (m : ℕ) → m ≤ n → take m new ≡ take m old
  pub rest : drop n new ≡ behind
  pub len : length new ≡ n + length behind

pub follows : (n : ℕ) (old behind new : List ℕ) → n ≤ length old → new ≡ take n old ++ behind → Follows n old behind new
follows n old behind new within is = grind (arith, length-take-le, take-append-le, take-take, drop_at, length-append)

-- the progress of moving bytes one by one, from the last on: the number of bytes that are left, and the number of bytes that are already `gap` places later
pub record Brought (old bytes : List ℕ) (gap left done : ℕ) : Type 0 where
  pub front : take (gap + left) bytes ≡ take (gap + left) old
  pub back : drop (gap + left) bytes ≡ take done (drop left old)

shorter : (m n : ℕ) (bs cs : List ℕ) → m ≤ n → take n bs ≡ take n cs → take m bs ≡ take m cs
shorter m n bs cs le e = sym (take-take m n bs le) ∙ ap (take m) e ∙ take-take m n cs le

-- one more byte
pub brought_next : (old bytes : List ℕ) (gap some left done more at : ℕ) → some ≡ suc left → more ≡ suc done → length bytes ≡ length old
    → gap + some ≤ length old → at ≡ left
    → Brought old bytes gap some done → Brought old (set bytes (at + gap) (get_or bytes at 0)) gap left more
brought_next old bytes gap some left done more at one_less one_more same within is begun =
    grind (arith, get_or, get_or-take, drop_more, set, take-set-le, shorter, drop-set_at)

-- the moved bytes and the bytes that they are moved over, as a part of all bytes
pub moved_up : (b new : List ℕ) (from len to k gap : ℕ) → from + gap ≡ to → to + len ≤ length b → k ≡ gap + len
    → new ≡ take gap (take k (drop from b)) ++ take len (take k (drop from b))
    → put_mid from k b new ≡ take to b ++ (take len (drop from b) ++ drop (to + len) b)
moved_up b new from len to k gap place within whole moves =
    let rest = drop from b in
    let some : k ≤ length rest = omega (arith, length-drop from b) in
    let gaps : take gap (take k rest) ≡ take gap rest = take-take gap k rest (omega arith) in
    let stretch : take len (take k rest) ≡ take len rest = take-take len k rest (omega arith) in
    let is : new ≡ take gap rest ++ take len rest = moves ∙ ap (λ bs. bs ++ take len (take k rest)) gaps ∙ ap (λ bs. take gap rest ++ bs) stretch in
    let long : length new ≡ k = omega
    (arith, ap length is, length-append (take gap rest) (take len rest), length-take-le gap rest (omega arith), length-take-le len rest (omega arith)) in
    let before : take from b ++ take gap rest ≡ take to b = sym (take-add from gap b) ∙ ap (λ n. take n b) place in
    let front : take (to + len) (put_mid from k b new) ≡ take to b ++ take len rest =
    take-put_mid from k b new (to + len) (omega arith) (omega arith) ∙ ap (λ bs. take from b ++ bs) is
    ∙ sym (append_assoc (take from b) (take gap rest) (take len rest)) ∙ ap (λ bs. bs ++ take len rest) before in
    let back : drop (to + len) (put_mid from k b new) ≡ drop (to + len) b = drop-put_mid from k b new (to + len) (omega arith) (omega arith) long in
    sym (take-append-drop (to + len) (put_mid from k b new)) ∙ ap (λ bs. bs ++ drop (to + len) (put_mid from k b new)) front
    ∙ ap (λ bs. (take to b ++ take len rest) ++ bs) back
    ∙ append_assoc (take to b) (take len rest) (drop (to + len) b)

-- ---- what closing does, step by step, and the state after counting

-- the first of a list are the last of its reverse
pub reverse_kept : (n : ℕ) (ps : List Placeholder) → reverse (take n ps) ≡ drop (length (reverse ps) - n) (reverse ps)
reverse_kept n ps =
    let parts : reverse ps ≡ reverse (drop n ps) ++ reverse (take n ps) =
    ap reverse (sym (take-append-drop n ps)) ∙ reverse-append (take n ps) (drop n ps) in
    let rest : length (reverse (drop n ps)) ≡ length (reverse ps) - n =
    omega (arith, length-reverse (drop n ps), length-drop n ps, length-reverse ps) in
    sym (ap (drop (length (reverse ps) - n)) parts ∙ drop_at (reverse (drop n ps)) (reverse (take n ps)) (length (reverse ps) - n) rest)

-- ---- finding the growth

-- the progress of the search for full lists: the number of lists found, and the number of bytes by which they make the buffer grow. The next lists are `ps`,
-- whose innermost ends at `left`, with `tail` bytes after it
pub record Planned (k end : ℕ) (whole : List Placeholder) (closing grown left tail counts : ℕ) (ps : List Placeholder) : Type 0 where
  pub closes : filled k whole ≡ closing + filled counts ps
  pub grows : growth (filled k whole) end 0 whole ≡ grown + growth (filled counts ps) left tail ps
  pub order : Descends left ps
  pub total : left + tail ≡ end + grown
  pub small : grown ≤ 8 * closing
  pub few : closing + length ps ≡ length whole

-- ---- closing in place

-- the progress of closing: the bytes from `to` on are final, the bytes below `from` are unchanged, and n lists of `ps` are still to be closed
pub record Closes (whole : List ℕ) (n : ℕ) (bytes : List ℕ) (from to : ℕ) (ps : List Placeholder) : Type 0 where
  pub known : closed_bytes n (take from bytes) (drop to bytes) ps ≡ whole
  pub room : from + growth n from (length bytes - to) ps ≡ to
  pub within : to ≤ length bytes
  pub order : Descends from ps
  pub enough : n ≤ length ps

-- the last header is written right after the bytes that stay
pub closes_all : (whole : List ℕ) (bytes : List ℕ) (from to : ℕ) (ps : List Placeholder) → Closes whole 0 bytes from to ps → bytes ≡ whole
closes_all whole bytes from to ps h = grind (arith, take-append-drop)

-- a header has a byte
pub header_some : (len : ℕ) → 0 < header_len len
header_some len = grind (arith, written_header_long, written_header_short, cases_lt)

-- one more list is found to be full, the last in the order in which they were opened
pub planned_more : (k end : ℕ) (whole : List Placeholder) (closing grown left tail counts : ℕ) (p : Placeholder) (ps : List Placeholder) (len header : ℕ)
    → Planned k end whole closing grown left tail counts (p ∷ ps) → is_last counts p.awaits ≡ true → len ≡ (left - (p.position + 1)) + tail
    → header ≡ header_len len → header ≤ 9 → Planned k end whole (closing + 1) (grown + (header - 1)) p.position (header + len) 1 ps
planned_more k end whole closing grown left tail counts p ps len header h full is written few = grind (arith, cond-true, header_some)

-- the payload of the innermost list is at its final place, from `at` on, and its header isn't written yet
pub record Brings (whole : List ℕ) (n : ℕ) (bytes : List ℕ) (left at : ℕ) (ps : List Placeholder) : Type 0 where
  pub known : closed_bytes n (take left bytes) (list_encoding (drop at bytes)) ps ≡ whole
  pub room : left + growth n left (header_len (length bytes - at) + (length bytes - at)) ps + header_len (length bytes - at) ≡ at
  pub within : at ≤ length bytes
  pub order : Descends left ps
  pub enough : n ≤ length ps

-- the payload was moved
pub brings : (whole : List ℕ) (n : ℕ) (bytes : List ℕ) (from to : ℕ) (p : Placeholder) (ps : List Placeholder) (len at : ℕ) (moved : List ℕ)
    → Closes whole (suc n) bytes from to (p ∷ ps) → len + (p.position + 1) ≡ from → at + len ≡ to
    → moved ≡ take at bytes ++ (take len (drop (p.position + 1) bytes) ++ drop (at + len) bytes) → Brings whole n moved p.position at ps
brings whole n bytes from to p ps len at moved h is goes moves =
    let stretch = take len (drop (p.position + 1) bytes) in
    let order = h.order in
    let payload : ℕ = (from - (p.position + 1)) + (length bytes - to) in
    let step : growth (suc n) from (length bytes - to) (p ∷ ps) ≡ (header_len payload - 1) + growth n p.position (header_len payload + payload) ps = refl in
    let begins : from ≡ (p.position + 1) + len = omega arith in
    let from_to : from ≤ to = omega (arith, h.room) in
    let within : to ≤ length bytes = h.within in
    let rest : stretch ++ drop (at + len) bytes ≡ drop (p.position + 1) (take from bytes) ++ drop to bytes =
    rw (goes, begins, drop-take (p.position + 1) len bytes) refl in
    let now = follows at bytes (stretch ++ drop (at + len) bytes) moved (omega arith) moves in
    let size : length moved - at ≡ payload =
    omega (
      arith,
      now.len,
      length-append stretch (drop (at + len) bytes),
      length-take-le len (drop (p.position + 1) bytes) (omega (arith, length-drop (p.position + 1) bytes)),
      length-drop (at + len) bytes,
    ) in
    record {
      known = rw (now.front p.position (omega arith), now.rest, rest, ← take-take p.position from bytes (omega arith)) h.known;
      room = rw size (omega (arith, h.room, step, header_some payload));
      within = omega (arith, now.len);
      order = order.1;
      enough = omega (arith, h.enough);
    }

-- its header is written before it, and the list is closed
pub closes_more : (whole : List ℕ) (n : ℕ) (moved : List ℕ) (left at low : ℕ) (ps : List Placeholder) (placed : List ℕ)
    → Brings whole n moved left at ps → low + header_len (length moved - at) ≡ at
    → placed ≡ take low moved ++ (written_header 0xc0 (length moved - at) ++ drop at moved) → Closes whole n placed left low ps
closes_more whole n moved left at low ps placed h fits places =
    let header = written_header 0xc0 (length moved - at) in
    let within : low ≤ length moved = omega (arith, h.within) in
    let now = follows low moved (header ++ drop at moved) placed within places in
    let size : length placed - low ≡ header_len (length moved - at) + (length moved - at) =
    omega (arith, now.len, length-append header (drop at moved), length-drop at moved) in
    record {
      known = rw (now.front left (omega (arith, h.room)), now.rest) (rw (length-drop at moved) at h.known);
      room = rw size (omega (arith, h.room));
      within = omega (arith, now.len);
      order = h.order;
      enough = h.enough;
    }

-- ---- the innermost list that stays open

one_by : (full : Bool) (p : Placeholder) (ps : List Placeholder) → is_last 1 p.awaits ≡ full
    → counted 1 ps ≡ with_innermost (awaits_after 1) (drop (filled 1 ps) ps)
    → counted 1 (p ∷ ps) ≡ with_innermost (awaits_after 1) (drop (filled 1 (p ∷ ps)) (p ∷ ps))
one_by full p ps e f = grind arith

counted_one : (ps : List Placeholder) → counted 1 ps ≡ with_innermost (awaits_after 1) (drop (filled 1 ps) ps)
counted_one [] = refl
counted_one (p ∷ ps) = one_by (is_last 1 p.awaits) p ps refl (counted_one ps)

-- after a count that closes lists, the innermost list that stays open awaits one item fewer
pub counted_closed : (k : ℕ) (ps : List Placeholder) → closes k ps ≡ true → counted k ps ≡ with_innermost (awaits_after 1) (drop (filled k ps) ps)
counted_closed k ps e = grind (arith, counted_one)

-- ---- what the innermost lists await

-- an element that is set, in the reversed list
reverse_set : (xs : List Placeholder) (i k : ℕ) (q : Placeholder) → i + k + 1 ≡ length xs → reverse (set xs i q) ≡ set (reverse xs) k q
reverse_set [] i k q e = absurd (omega (arith, e))
reverse_set (x ∷ xs) zero k q e =
    reverse-append (q ∷ []) xs ∙ sym (ap (λ z. set z k q) (reverse-append (x ∷ []) xs)
    ∙ set_at (reverse xs) x [] q k (omega (arith, e, length-reverse xs)))
reverse_set (x ∷ xs) (suc i) k q e =
    reverse-append (x ∷ []) (set xs i q) ∙ ap (λ z. z ++ x ∷ []) (reverse_set xs i k q (omega (arith, e)))
    ∙ sym (ap (λ z. set z k q) (reverse-append (x ∷ []) xs) ∙ set-append_left (reverse xs) (x ∷ []) k q (omega (arith, e, length-reverse xs)))

-- the last in the order in which the lists were opened is the innermost
set_first : (change : Option ℕ → Option ℕ) (ps : List Placeholder) (p q : Placeholder) → 0 < length ps → p ≡ get_or ps 0 p
    → q ≡ record p { awaits = change p.awaits } → set ps 0 q ≡ with_innermost change ps
set_first change ps p q e f h = grind arith

-- changing what the last list awaits changes the innermost list
pub set_last : (change : Option ℕ → Option ℕ) (n : ℕ) (lists : List Placeholder) (p q : Placeholder) → 0 < length lists → n ≡ length lists - 1
    → p ≡ get_or lists n p → q ≡ record p { awaits = change p.awaits }
    → reverse (set lists n q) ≡ with_innermost change (reverse lists)
set_last change n lists p q some last is new =
    let first : length lists - 1 - 0 ≡ n = omega arith in
    let item : p ≡ get_or (reverse lists) 0 p = is ∙ ap (λ k. get_or lists k p) (sym first) ∙ sym (get_or-reverse lists 0 p some) in
    reverse_set lists n 0 q (omega arith) ∙ set_first change (reverse lists) p q (omega (arith, length-reverse lists)) item new

-- one more list awaits that number of items
awaits_next : (k : ℕ) (w : Option ℕ) (ps : List Placeholder) (d : Placeholder) → k < length ps
    → set (with_awaits k w ps) k (record (get_or (with_awaits k w ps) k d) { awaits = w }) ≡ with_awaits (suc k) w ps
awaits_next k w [] d within = absurd (omega (arith, within))
awaits_next zero w (p ∷ ps) d within = refl
awaits_next (suc k) w (p ∷ ps) d within = ap (λ qs. record p { awaits = w } ∷ qs) (awaits_next k w ps d (omega (arith, within)))

pub length-with_awaits : (n : ℕ) (w : Option ℕ) (ps : List Placeholder) → length (with_awaits n w ps) ≡ length ps
length-with_awaits zero w ps = refl
length-with_awaits (suc n) w [] = refl
length-with_awaits (suc n) w (p ∷ ps) = ap suc (length-with_awaits n w ps)

-- the same in the order in which the lists were opened
pub awaits_set : (k i : ℕ) (w : Option ℕ) (old lists : List Placeholder) (p : Placeholder) → i + k + 1 ≡ length lists
    → reverse lists ≡ with_awaits k w (reverse old) → p ≡ get_or lists i p
    → reverse (set lists i (record p { awaits = w })) ≡ with_awaits (suc k) w (reverse old)
awaits_set k i w old lists p place so_far is =
    let size : k < length (reverse old) = omega (arith, place, length-reverse lists, ap length so_far, length-with_awaits k w (reverse old)) in
    let mirrored : get_or (reverse lists) k p ≡ get_or lists (length lists - 1 - k) p = get_or-reverse lists k p (omega arith) in
    let here : length lists - 1 - k ≡ i = omega (arith, place) in
    let item : p ≡ get_or (with_awaits k w (reverse old)) k p =
    is ∙ ap (λ n. get_or lists n p) (sym here) ∙ sym mirrored ∙ ap (λ qs. get_or qs k p) so_far in
    let change : Placeholder → Placeholder = λ q. record q { awaits = w } in
    reverse_set lists i k (change p) place ∙ ap (λ qs. set qs k (change p)) so_far
    ∙ ap (λ q. set (with_awaits k w (reverse old)) k (change q)) item ∙ awaits_next k w (reverse old) p size

-- ---- the search for unbounded lists

-- the progress of the search: this number of lists is found, and the next are `ps`
pub record Found (most : ℕ) (whole : List Placeholder) (count : ℕ) (ps : List Placeholder) : Type 0 where
  pub within : count ≤ most
  pub all : min most (unbounded_innermost whole) ≡ count + min (most - count) (unbounded_innermost ps)

-- bytes that are already at their place
pub shifted_none : (bytes : List ℕ) (from len to : ℕ) → from ≡ to → bytes ≡ take to bytes ++ (take len (drop from bytes) ++ drop (to + len) bytes)
shifted_none bytes from len to same =
    rw (same, ← drop-drop len to bytes, take-append-drop len (drop to bytes), take-append-drop to bytes) refl

pub ruleset awaits_changed = (length-set, awaits_set)
