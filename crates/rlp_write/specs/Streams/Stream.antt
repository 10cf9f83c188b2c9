-- A stream: its open lists, its state, its calls, and the effect of each call on the state.
use Rattle.std.specs.Prelude.{ℕ, zero, suc, ◌-◌, ◌<◌, Bool, true, false, if◌then◌else◌, nat_le, List, [], ◌∷◌, ◌++◌}
use Rattle.std.specs.Prelude.{Option, Some, None, is_none, All, ◌≡◌, ◌+◌, ◌≤◌, ◌||◌, length, flat_map, replicate, Result, Ok, Err}
use Rattle.rlp_format.specs.Format.Encoding.{written_header, Item, is_list, string, list_of, encoding}

-- ==== Open lists, one inside the other, and the payload of each: bytes in a stream. With items as payloads, the same moves say what the bytes mean.

-- An open list, seen from inside: the number of items that it still awaits, which is 1 or more, or `None` if it is unbounded; and the payload before it in the
-- list around it.
pub record OpenList (A : Type 0) : Type 0 where
  pub awaits : Option ℕ
  pub outer : List A

-- The payload of the innermost open list, or of the top if no list is open; and the open lists, the innermost first.
pub record Stack (A : Type 0) : Type 0 where
  pub inner : List A
  pub lists : List (OpenList A)

-- an empty top, and no open list
abbrev pub empty_stack : {A : Type 0} → Stack A
empty_stack = record { inner = []; lists = [] }

-- a bounded list is open only while it awaits an item
abbrev pub AwaitsSome : Option ℕ → Type 0
AwaitsSome None = Unit
AwaitsSome (Some n) = 0 < n

-- each open list that is bounded awaits at least one item
abbrev pub AllAwait : {A : Type 0} → List (OpenList A) → Type 0
AllAwait lists = All (λ l. AwaitsSome l.awaits) lists

-- ---- the same stack, seen from the outside

-- An open list with its payload.
pub record Level (A : Type 0) : Type 0 where
  pub payload : List A
  pub awaits : Option ℕ

-- the top's payload, if `payload` is inside the lists
abbrev pub top_around : {A : Type 0} → List A → List (OpenList A) → List A
top_around payload [] = payload
top_around payload (l ∷ ls) = top_around l.outer ls

-- the lists from the outside in, if `payload` is in the innermost
abbrev pub levels_around : {A : Type 0} → List A → List (OpenList A) → List (Level A)
levels_around payload [] = []
levels_around payload (l ∷ ls) = levels_around l.outer ls ++ record { payload = payload; awaits = l.awaits } ∷ []

-- the payload outside every open list
abbrev pub top : {A : Type 0} → Stack A → List A
top s = top_around s.inner s.lists

-- the open lists from the outside in
abbrev pub levels : {A : Type 0} → Stack A → List (Level A)
levels s = levels_around s.inner s.lists

-- ---- moves. `wrap` turns the payload of a closed list into its encoding in the payload around it.

-- x is put at the end of the innermost payload
abbrev pub stack_put : {A : Type 0} → List A → Stack A → Stack A
stack_put x s = record s { inner = s.inner ++ x }

-- a new list is open, and awaits the given number of items
abbrev pub stack_with_list : {A : Type 0} → Option ℕ → Stack A → Stack A
stack_with_list awaits s = record { inner = []; lists = record { awaits = awaits; outer = s.inner } ∷ s.lists }

-- the innermost of the lists, which has this `payload`, is closed, and put at the end of the payload around it
abbrev pub shut_around : {A : Type 0} → (List A → List A) → List A → List (OpenList A) → Stack A
shut_around wrap payload [] = record { inner = payload; lists = [] }
shut_around wrap payload (l ∷ ls) = record { inner = l.outer ++ wrap payload; lists = ls }

-- the innermost open list is closed, and put at the end of the payload around it
abbrev pub stack_shut : {A : Type 0} → (List A → List A) → Stack A → Stack A
stack_shut wrap s = shut_around wrap s.inner s.lists

-- whether the count of k items closes a list that awaits this number
abbrev pub is_last : ℕ → Option ℕ → Bool
is_last k None = false
is_last k (Some n) = nat_le n k

-- the number of items that a list awaits after k items
abbrev pub awaits_after : ℕ → Option ℕ → Option ℕ
awaits_after k None = None
awaits_after k (Some n) = Some (n - k)

-- K items were counted in the innermost of the lists, which has this `payload`: it awaits k items fewer. The last item that it awaits shuts it, and one item is
-- counted in the list around it.
abbrev pub count_around : {A : Type 0} → (List A → List A) → ℕ → List A → List (OpenList A) → Stack A
count_around wrap k payload [] = record { inner = payload; lists = [] }
count_around wrap k payload (l ∷ ls) =
    if is_last k l.awaits then count_around wrap 1 (l.outer ++ wrap payload) ls
    else record { inner = payload; lists = record l { awaits = awaits_after k l.awaits } ∷ ls }

-- k items were counted in the innermost list, if one is open
abbrev pub stack_count : {A : Type 0} → (List A → List A) → ℕ → Stack A → Stack A
stack_count wrap k s = count_around wrap k s.inner s.lists

-- `is_counted` of a state after k items were counted: whether the count closed a list, which is then counted itself as an item; with no list open `is_counted`
-- doesn't change
abbrev pub is_counted_after : {A : Type 0} → ℕ → List (OpenList A) → Bool → Bool
is_counted_after k [] is_counted = is_counted
is_counted_after k (l ∷ ls) is_counted = is_last k l.awaits

-- the top's payload after every list was shut, if `payload` is inside the lists
abbrev pub closed_payload_around : {A : Type 0} → (List A → List A) → List A → List (OpenList A) → List A
closed_payload_around wrap payload [] = payload
closed_payload_around wrap payload (l ∷ ls) = closed_payload_around wrap (l.outer ++ wrap payload) ls

-- the top's payload after every list was shut, even if it still awaits items
abbrev pub closed_payload : {A : Type 0} → (List A → List A) → Stack A → List A
closed_payload wrap s = closed_payload_around wrap s.inner s.lists

-- whether k items may be counted: the innermost list is unbounded or awaits at least k, or no list is open
abbrev pub has_room : {A : Type 0} → ℕ → List (OpenList A) → Bool
has_room k [] = true
has_room k (l ∷ ls) = room_in l.awaits
  where
    room_in : Option ℕ → Bool
    room_in None = true
    room_in (Some n) = nat_le k n

-- whether a list is open and the innermost is unbounded
abbrev pub is_unbounded : {A : Type 0} → List (OpenList A) → Bool
is_unbounded [] = false
is_unbounded (l ∷ ls) = none_in l.awaits
  where
    none_in : Option ℕ → Bool
    none_in None = true
    none_in (Some n) = false

-- the number of innermost open lists that are unbounded: the lists inside the innermost bounded list, or all lists if none is bounded
abbrev pub unbounded_count : {A : Type 0} → List (OpenList A) → ℕ
unbounded_count [] = 0
unbounded_count (l ∷ ls) = if is_none l.awaits then suc (unbounded_count ls) else 0

-- the number of items that the innermost open list awaits, if a list is open and it is bounded
abbrev pub awaited : {A : Type 0} → List (OpenList A) → Option ℕ
awaited [] = None
awaited (l ∷ ls) = l.awaits

-- the open lists, of which each of the n innermost awaits this number of items
abbrev pub each_awaits : {A : Type 0} → ℕ → Option ℕ → List (OpenList A) → List (OpenList A)
each_awaits zero awaits ls = ls
each_awaits (suc n) awaits [] = []
each_awaits (suc n) awaits (l ∷ ls) = record l { awaits = awaits } ∷ each_awaits n awaits ls

-- ==== The state of a stream, and its moves.

-- The front, which is the bytes that the stream was given when it was made; the payloads and the open lists; and `is_counted`, which tells `append` whether the
-- value that was just written is counted already. A list counts itself once it is whole, so each call that writes or closes a list makes `is_counted` true. `append`
-- makes `is_counted` false before the value is written, and counts one item if it is still false after that.
pub record State : Type 0 where
  pub front : List ℕ
  pub stack : Stack ℕ
  pub is_counted : Bool

-- What clauses see of a stream: its state; how many more bytes its buffer takes without an allocation; and how many payload bytes its closings have moved.
pub record Seen : Type 0 where
  pub state : State
  pub spare : ℕ
  pub moved : ℕ

-- The state is the old state, including `is_counted`, and no payload byte was moved. The room may differ.
abbrev pub IsAsBefore : Seen → Seen → Type 0
IsAsBefore old new = (new.state ≡ old.state) × (new.moved ≡ old.moved)

-- a new stream over these bytes
abbrev pub initial_state : List ℕ → State
initial_state front = record { front = front; stack = empty_stack; is_counted = false }

-- no list is open
abbrev pub IsFinished : State → Type 0
IsFinished s = s.stack.lists ≡ []

-- the encoding of a list, by the joined encodings of its items
abbrev pub list_encoding : List ℕ → List ℕ
list_encoding payload = written_header 0xc0 (length payload) ++ payload

-- ---- moves

-- x is put at the end of the innermost payload, or of the top if no list is open
abbrev pub put : List ℕ → State → State
put x s = record s { stack = stack_put x s.stack }

-- the innermost list is closed, and its header and payload are put in the list around it
abbrev pub shut : State → State
shut s = record s { stack = stack_shut list_encoding s.stack }

-- The state after k items are counted in the innermost open list. With no list open nothing changes. If the innermost list is unbounded, `is_counted` becomes false.
-- If it is bounded, it awaits k items fewer. If it then awaits none, it is shut, one item is counted in the list around it, and `is_counted` becomes true. Else
-- `is_counted` becomes false.
abbrev pub count : ℕ → State → State
count k s = record { front = s.front; stack = stack_count list_encoding k s.stack; is_counted = is_counted_after k s.stack.lists s.is_counted }

-- the state with this value of `is_counted`
abbrev pub with_is_counted : Bool → State → State
with_is_counted is_counted s = record s { is_counted = is_counted }

-- the state in which each of the n innermost lists awaits this number of items
abbrev pub with_awaiting : ℕ → Option ℕ → State → State
with_awaiting n awaits s = record s { stack = record s.stack { lists = each_awaits n awaits s.stack.lists } }

-- a new list is open, which has an empty payload and awaits the given number of items; `is_counted` is false
abbrev pub with_list : Option ℕ → State → State
with_list awaits s = record { front = s.front; stack = stack_with_list awaits s.stack; is_counted = false }

-- ---- the effect of items

-- the state after an item is appended: `is_counted` becomes false, the encoding is put, one item is counted, and `is_counted` is true if the item is a list
abbrev pub add : Item → State → State
add x s = let counted : State = count 1 (put (encoding x) (with_is_counted false s)) in record counted { is_counted = is_list x || counted.is_counted }

-- The state after a value's `rlp_append`. The encoding of a string is put, and nothing else changes; or the encoding of a list is put, one item is counted, and
-- `is_counted` is true.
abbrev pub put_item : Item → State → State
put_item x s = if is_list x then with_is_counted true (count 1 (put (encoding x) s)) else put (encoding x) s

-- items appended, one after another
abbrev pub add_all : List Item → State → State
add_all [] s = s
add_all (x ∷ xs) s = add_all xs (add x s)

-- ---- texts

-- the bytes as the buffer holds them: the front, the top, and for each open list from the outside in one byte 0 and its payload
abbrev pub raw_text : State → List ℕ
raw_text s = s.front ++ (top s.stack ++ flat_map (λ l. 0 ∷ l.payload) (levels s.stack))

-- the top after every list was shut, even if it still awaits items; the front isn't in it
abbrev pub closed_text : State → List ℕ
closed_text s = closed_payload list_encoding s.stack

-- the number of bytes once every list is closed
abbrev pub closed_size : State → ℕ
closed_size s = length (closed_text s)

-- The closed size after this number of further bytes is put. It doesn't depend on the values of these bytes.
abbrev pub closed_size_with : ℕ → State → ℕ
closed_size_with more s = closed_size (put (replicate more 0) s)

-- ---- bytes moved

-- the count of moved bytes doesn't fall
abbrev pub MovedGrows : Seen → Seen → Type 0
MovedGrows old new = old.moved ≤ new.moved

-- the count of moved bytes doesn't fall, and grows by the final closed size at most
abbrev pub MovesWithin : Seen → Seen → Type 0
MovesWithin old new = MovedGrows old new × (new.moved ≤ old.moved + closed_size new.state)

-- ==== The calls of a stream, the effect of each on its state, and which of them are admitted.

-- A call, with its items and bytes. `append` is also the call that appends a list of values, as the list of their items, and the call that appends the bytes of
-- an iterator, as their string.
pub data Call : Type 0 where
  append : Item → Call
  append_empty_data : Call
  append_raw : List ℕ → ℕ → Call
  append_raw_checked : List ℕ → ℕ → ℕ → Call
  begin_list : ℕ → Call
  begin_unbounded_list : Call
  finalize_unbounded_list : Call
  append_internal : Item → Call
  encode_value : List ℕ → Call
  clear : Call

-- whether the closed size with these bytes put is at most the limit
abbrev pub is_within_size : List ℕ → ℕ → State → Bool
is_within_size bytes limit s = nat_le (closed_size (put bytes s)) limit

-- a list of no items is appended as an item; any other list is opened
abbrev pub with_list_of : ℕ → State → State
with_list_of zero s = add (list_of []) s
with_list_of (suc n) s = with_list (Some (suc n)) s

-- The state after a call that is admitted.
abbrev pub effect : Call → State → State
effect (append x) s = add x s
effect append_empty_data s = count 1 (put (0x80 ∷ []) s)
effect (append_raw bytes k) s = count k (put bytes s)
effect (append_raw_checked bytes k limit) s = if is_within_size bytes limit s then count k (put bytes s) else s
effect (begin_list n) s = with_list_of n s
effect begin_unbounded_list s = with_list None s
effect finalize_unbounded_list s = with_is_counted true (count 1 (shut s))
effect (append_internal x) s = put_item x s
effect (encode_value t) s = put (encoding (string t)) s
effect clear s = record s { stack = empty_stack }

-- the state after n lists were finalized, one after another
abbrev pub finalized : ℕ → State → State
finalized zero s = s
finalized (suc n) s = finalized n (effect finalize_unbounded_list s)

-- Whether a call may be made. Raw bytes may count at most the number of items that the innermost list awaits. Only an unbounded list is finalized. All other
-- calls may always be made.
abbrev pub is_admitted : Call → State → Bool
is_admitted (append_raw bytes k) s = has_room k s.stack.lists
is_admitted (append_raw_checked bytes k limit) s = has_room k s.stack.lists
is_admitted finalize_unbounded_list s = is_unbounded s.stack.lists
is_admitted _ s = true

-- the state after all calls from the state s on, or the place of the first that isn't admitted; n is the place of the next call
abbrev pub after_from : ℕ → State → List Call → Result State ℕ
after_from n s [] = Ok s
after_from n s (c ∷ cs) = if is_admitted c s then after_from (n + 1) (effect c s) cs else Err n

-- the state after all calls of a new stream with this front, or the place, counted from 1, of the first call that isn't admitted
abbrev pub after : List ℕ → List Call → Result State ℕ
after front calls = after_from 1 (initial_state front) calls
