-- How the steps of a stream change the texts of its state.
use Rattle.std.proofs.Common.{◌≡◌, ℕ, zero, suc, ◌+◌, ◌<◌, ◌≤◌, ◌^◌, nat_le, arith, Bool, true, false, List, [], ◌∷◌, ◌++◌, length, replicate}
use Rattle.std.proofs.{Common.{flat_map, Option, refl, sym, ap, ◌∙◌, append-nil, append_assoc, length-append}, lemmas.Bool.cond_both}
use Rattle.std.proofs.{lemmas.Bool.Decides.nat_tests, lemmas.List.length-replicate, lemmas.List.Concat.flat_map-append}
use Rattle.rlp_format.specs.Format.Encoding.{Item, is_list, encoding}
use Rattle.rlp_write.specs.Streams.Stream.{OpenList, Level, top_around, levels_around, closed_payload_around, count_around, effect}
use Rattle.rlp_write.specs.Streams.Stream.{finalize_unbounded_list, finalized, is_within_size, State, IsFinished, list_encoding, put, shut, count}
use Rattle.rlp_write.specs.Streams.Stream.{with_list, add, put_item, raw_text, closed_text, closed_size, closed_size_with}

-- ---- the closed text

closed_shut_around : (f : List ℕ) (p : List ℕ) (ls : List (OpenList ℕ)) (m : Bool)
    → closed_text (shut (record { front = f; stack = record { inner = p; lists = ls }; is_counted = m })) ≡ closed_payload_around list_encoding p ls
closed_shut_around f p ls m = grind arith

-- closing a list doesn't change the closed text
pub closed_text-shut : (s : State) → closed_text (shut s) ≡ closed_text s
closed_text-shut s = closed_shut_around s.front s.stack.inner s.stack.lists s.is_counted

closed_count_around : (k : ℕ) (p : List ℕ) (ls : List (OpenList ℕ)) →
    closed_payload_around list_encoding (count_around list_encoding k p ls).inner (count_around list_encoding k p ls).lists
    ≡ closed_payload_around list_encoding p ls
closed_count_around k p [] = refl
closed_count_around k p (l ∷ ls) = grind (arith, cond_both, closed_count_around 1 (l.outer ++ list_encoding p) ls)

-- neither does a count
pub closed_text-count : (k : ℕ) (s : State) → closed_text (count k s) ≡ closed_text s
closed_text-count k s = closed_count_around k s.stack.inner s.stack.lists

-- ---- the closed size

length-list_encoding : (p q : List ℕ) → length p ≡ length q → length (list_encoding p) ≡ length (list_encoding q)
length-list_encoding p q e = grind (arith, length-append)

length-closed_payload_around : (p q : List ℕ) (ls : List (OpenList ℕ)) → length p ≡ length q
    → length (closed_payload_around list_encoding p ls) ≡ length (closed_payload_around list_encoding q ls)
length-closed_payload_around p q [] e = e
length-closed_payload_around p q (l ∷ ls) e =
    length-closed_payload_around (l.outer ++ list_encoding p) (l.outer ++ list_encoding q) ls
    (length-append l.outer (list_encoding p) ∙ ap (λ n. length l.outer + n) (length-list_encoding p q e) ∙ sym (length-append l.outer (list_encoding q)))

-- the closed size with bytes put, by their number
pub closed_size-put : (x : List ℕ) (s : State) → closed_size (put x s) ≡ closed_size_with (length x) s
closed_size-put x s = grind (arith, length-closed_payload_around, length-append, length-replicate)

-- finalizing a list closes it, and counts it in the list around
size-finalized : (n : ℕ) (s : State) → closed_size (finalized n s) ≡ closed_size s
size-finalized zero s = refl
size-finalized (suc n) s = size-finalized n (effect finalize_unbounded_list s) ∙ ap length (closed_text-count 1 (shut s) ∙ closed_text-shut s)

pub size_kept_each : (n : ℕ) (s t : State) → t ≡ finalized n s → closed_size t ≡ closed_size s
size_kept_each n s t e = ap closed_size e ∙ size-finalized n s

-- no bytes are put
pub put_none : (s : State) → put [] s ≡ s
put_none s = ap (λ p. record s { stack = record s.stack { inner = p } }) (append-nil s.stack.inner)

-- the test of a size that was found, and of one that is too large to be found
pub within_size-found : (bytes : List ℕ) (limit size : ℕ) (s : State) → size ≡ closed_size_with (length bytes) s
    → nat_le size limit ≡ is_within_size bytes limit s
within_size-found bytes limit size s e = ap (λ n. nat_le n limit) (e ∙ sym (closed_size-put bytes s))

-- a size of 2^64 or more is within no limit
pub within_size-too_large : (bytes : List ℕ) (limit : ℕ) (s : State) → limit < 2 ^ 64 → ¬ (closed_size_with (length bytes) s < 2 ^ 64)
    → is_within_size bytes limit s ≡ false
within_size-too_large bytes limit s small large = grind (arith, closed_size-put, nat_tests)

-- a size that is within the limit
pub within_size-within : (bytes : List ℕ) (limit : ℕ) (s : State) → closed_size_with (length bytes) s ≤ limit → is_within_size bytes limit s ≡ true
within_size-within bytes limit s within = grind (arith, closed_size-put, nat_tests)

-- if no list is open, the closed text is all that was written
pub closed_text-finished : (s : State) → IsFinished s → closed_text s ≡ s.stack.inner
closed_text-finished s e = ap (closed_payload_around list_encoding s.stack.inner) e

-- the bytes are then the front and the closed text
pub out_size : (s : State) → IsFinished s → length (s.front ++ s.stack.inner) ≡ length s.front + closed_size s
out_size s e = length-append s.front s.stack.inner ∙ ap (λ b. length s.front + length b) (sym (closed_text-finished s e))

-- ---- the bytes

-- the bytes of the levels
abbrev levels_bytes : List (Level ℕ) → List ℕ
levels_bytes = flat_map (λ (l : Level ℕ). 0 ∷ l.payload)

-- the bytes of the last level are the last bytes
levels_last : (top : List ℕ) (around : List (Level ℕ)) (l : Level ℕ) → top ++ levels_bytes (around ++ l ∷ []) ≡ (top ++ levels_bytes around) ++ (0 ∷ l.payload)
levels_last top around l = simp (flat_map-append, append_assoc, append-nil)

raw_put_around : (f p x : List ℕ) (ls : List (OpenList ℕ)) → f ++ (top_around (p ++ x) ls ++ levels_bytes (levels_around (p ++ x) ls))
    ≡ (f ++ (top_around p ls ++ levels_bytes (levels_around p ls))) ++ x
raw_put_around f p x [] = simp (append_assoc, append-nil)
raw_put_around f p x (l ∷ ls) = simp (flat_map-append, append_assoc, append-nil)

-- bytes that are put are the last of the raw text
pub raw_text-put : (x : List ℕ) (s : State) → raw_text (put x s) ≡ raw_text s ++ x
raw_text-put x s = raw_put_around s.front s.stack.inner x s.stack.lists

-- a new list is a byte 0 at the end of the raw text
pub raw_text-with_list : (awaits : Option ℕ) (s : State) → raw_text (with_list awaits s) ≡ raw_text s ++ 0 ∷ []
raw_text-with_list awaits s = search (arith, levels_last, append_assoc)

-- ---- with no list open

-- an item that is added to a finished stream
pub add-finished : (x : Item) (s : State) → IsFinished s
    → add x s ≡ record { front = s.front; stack = record { inner = s.stack.inner ++ encoding x; lists = [] }; is_counted = is_list x }
add-finished x s e = grind arith

-- an item that is put in a finished stream
pub put_item-finished : (x : Item) (s : State) → IsFinished s → (put_item x s).stack ≡ record { inner = s.stack.inner ++ encoding x; lists = [] }
put_item-finished x s e = grind arith

pub ruleset states = (raw_text-put, raw_text-with_list, closed_size-put, closed_text-shut, closed_text-count, add-finished, put_item-finished)

pub ruleset sizes = (within_size-found, within_size-too_large, within_size-within)
