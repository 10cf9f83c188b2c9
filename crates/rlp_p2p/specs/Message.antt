-- How the messages of a capability are written and read: the id, and then the body. `offset` is the id of the message with the number 0.
use Rattle.std.proofs.Common.{inl, inr, ltb-true}
use Rattle.std.specs.Prelude.{ℕ, ◌++◌, ◌+◌, ◌-◌, ◌<◌, ◌==◌, ◌||◌, ◌∷◌, ◌≡◌, ◌≤◌, ◌⊎◌, Bool, Err, List, None, Ok, Option, Result, Some, [], codes, drop, false, if◌then◌else◌, length, nat_lt, true}
use Rattle.rlp.specs.{Codec.{Cases, Codec, and_case, last_case}, Form.{Answer, Fault, and_then, custom, go_on, here, number}, Format.Encoding.{Item, encoding}}
use Rattle.rlp.specs.{Values.Sums.sum_tag, Values.Value.number_item, Views.View.{strict_view_of, view_of}}
use Rattle.rlp_records.specs.Bounded.{IsBounded, bound_fault, unless_fault}
use Rattle.rlp_p2p.specs.declared.message.MessageBounds.{MessageBounds}

-- the text of the fault of an id that no message has
abbrev pub unknown_message : List ℕ
unknown_message = codes "unknown message"

-- What bytes that begin with this id give: the number of the message and the bytes after the id, unless the id is below the offset.
abbrev pub after_id : ℕ → List ℕ → ℕ → Result (ℕ × List ℕ) Fault
after_id offset d id = if nat_lt id offset then Err (custom unknown_message) else Ok (id - offset, drop (length (encoding (number_item id))) d)

-- What the bytes of a message give: the number of the message, and the bytes after the id, which is a number of at most 8 bytes.
abbrev pub numbered_of : ℕ → List ℕ → Result (ℕ × List ℕ) Fault
numbered_of offset d = and_then ((number 8).reading.read (view_of d)).result (after_id offset d)

-- ---- the messages of a capability

-- The bodies of messages: how each body is written and read by its number within the capability, the numbers, and the proof that each number is below 2^8. A pair
-- of `envelopes` has the number of a body that holds transactions or receipts, and the number of lists that they stand inside of: they are envelopes, as in EIP-2718.
pub record Bodies (B : Type 0) : Type 1 where
  pub cases : Cases B
  pub numbers : List ℕ
  pub envelopes : List (ℕ × ℕ)
  pub small : (x : B) → cases.cases.tag x < 0x100

-- the last body, by its number. `refl` proves that the number is below 2^8.
abbrev pub last_message : {A : Type 0} (number : ℕ) → nat_lt number 0x100 ≡ true → Codec A → Bodies A
last_message number low c = record {
  cases = last_case unknown_message number c;
  numbers = number ∷ [];
  envelopes = [];
  small = λ x. ltb-true number 0x100 low;
}

-- a body before other bodies
abbrev pub and_message : {A B : Type 0} (number : ℕ) → nat_lt number 0x100 ≡ true → Codec A → Bodies B → Bodies (A ⊎ B)
and_message number low c more = record {
  cases = and_case number c more.cases;
  numbers = number ∷ more.numbers;
  envelopes = more.envelopes;
  small = λ s. elim s as (λ s. sum_tag number more.cases.cases.tag s < 0x100) [ inl x ↦ ltb-true number 0x100 low | inr y ↦ more.small y ];
}

-- a body before other bodies, where the body's envelopes stand inside this number of lists
abbrev pub and_enveloped : {A B : Type 0} (number : ℕ) → nat_lt number 0x100 ≡ true → (depth : ℕ) → Codec A → Bodies B → Bodies (A ⊎ B)
and_enveloped number low depth c more =
    let bodies = and_message number low c more in
    record { cases = bodies.cases; numbers = bodies.numbers; envelopes = (number, depth) ∷ bodies.envelopes; small = bodies.small }

-- the messages of a capability: the table of their bodies, and which body a message has
pub record Table (M : Type 0) : Type 1 where
  pub Body : Type 0
  pub bodies : Bodies Body
  pub body : M → Body

module _ {M : Type 0} (table : Table M) where
  -- the number of a message within the capability
  abbrev pub number_of : M → ℕ
  number_of m = table.bodies.cases.cases.tag (table.body m)

  -- the item of the body of a message
  abbrev pub item_of : M → Item
  item_of m = table.bodies.cases.cases.item (table.body m)

  -- the body of a message fits
  abbrev pub Fits : M → Type 0
  Fits m = table.bodies.cases.cases.Fits (table.body m)

  -- frame-data = msg-id || msg-data of RLPx: the encoding of the id of a message, which is the number plus the offset, and then the encoding of the body
  abbrev pub bytes_of : ℕ → M → List ℕ
  bytes_of offset m = encoding (number_item (offset + number_of m)) ++ encoding (item_of m)

  -- what contracts see of the messages
  abbrev pub Seen : Type 0
  Seen = table.bodies.cases.cases.M

  -- what contracts see of a message
  abbrev pub seen_of : M → Seen
  seen_of m = table.bodies.cases.cases.seen (table.body m)

  -- what the number of a message and the bytes of its body give, read strictly
  abbrev pub read_of : ℕ → List ℕ → Answer Seen Fault
  read_of n b = table.bodies.cases.cases.read n (strict_view_of b)

  -- what the bytes of a message give: the number is read, and then the body by the number
  abbrev pub message_of : ℕ → List ℕ → Answer Seen Fault
  message_of offset d = go_on (here (numbered_of offset d)) (λ n. read_of n.0 n.1)

-- The fault of bytes that have more items than this number or aren't the encoding of an item; no fault if no number is given. Envelopes stand inside this number of
-- lists, or nowhere.
abbrev pub items_fault : Option ℕ → Option ℕ → List ℕ → Option Fault
items_fault None envelopes b = None
items_fault (Some most) envelopes b = bound_fault most envelopes b

-- the second number of the first pair with this first number
abbrev pub paired_with : List (ℕ × ℕ) → ℕ → Option ℕ
paired_with [] n = None
paired_with (first ∷ more) n = if n == first.0 then Some first.1 else paired_with more n

-- whether a number is one of these
abbrev pub is_among : List ℕ → ℕ → Bool
is_among [] n = false
is_among (first ∷ more) n = (n == first) || is_among more n

module _ {M : Type 0} (table : Table M) where
  -- inside how many lists envelopes stand in the body of the message with this number, if it holds envelopes
  abbrev pub envelopes_of : ℕ → Option ℕ
  envelopes_of number = paired_with table.bodies.envelopes number

  -- The fault of the body of a message by the number of its items. The body of a message whose number is unknown is not read, and so its items are not counted.
  abbrev pub body_fault : Option ℕ → ℕ → List ℕ → Option Fault
  body_fault most number body = if is_among table.bodies.numbers number then items_fault most (envelopes_of number) body else None

  -- the fault of the body of a message whose id is read
  abbrev pub numbered_fault : Option ℕ → Result (ℕ × List ℕ) Fault → Option Fault
  numbered_fault most (Ok n) = body_fault most n.0 n.1
  numbered_fault most (Err e) = None

  -- Why the bytes of a message are refused before its body is read: they are more bytes than the bound allows, or the body isn't an item within the bound on items.
  abbrev pub message_fault : ℕ → MessageBounds → List ℕ → Option Fault
  message_fault offset most d =
      if nat_lt most.bytes (length d) then Some (custom (codes "too many bytes")) else numbered_fault (Some most.items) (numbered_of offset d)

  -- What the bytes of a message give within the bounds: the fault of the bounds, if there is one, and else what they give without bounds.
  abbrev pub message_at_most : ℕ → MessageBounds → List ℕ → Answer (Seen table) Fault
  message_at_most offset most d = unless_fault (message_fault offset most d) (message_of table offset d)

  -- the bytes of a message are within the bounds
  abbrev pub IsWithin : MessageBounds → List ℕ → M → Type 0
  IsWithin most d m = (length d ≤ most.bytes) × IsBounded most.items (envelopes_of (number_of table m)) (item_of table m)
