-- What the bytes of a message give within bounds.
use Rattle.std.proofs.Common.{ℕ, ◌+◌, ◌<◌, ◌^◌, ◌∙◌, ◌≡◌, ◌≤◌, ◌⊎◌, Bool, Err, IfErr, IfOk, List, None, Ok, OnOk, Option, Result, Some, ap, false, inl, inr, le-ltb, length, lt-ltb, ltb, refl, sym, true}
use Rattle.std.proofs.lemmas.Bool.{cond-false, cond-true}
use Rattle.std.specs.Prelude.{codes, if◌then◌else◌}
use Rattle.rlp.specs.{DecoderError.DecoderError, DecoderError.TheVariants.OutOfMemory, Form.{Answer, Fault, custom, fault_of}}
use Rattle.rlp.specs.{Format.Encoding.{Item, encoding}, Views.View.{View, strict_view_of}}
use Rattle.rlp_reading.proofs.RawLaws.{raw_item_of-encoding}
use Rattle.rlp_records.proofs.Bounds.{told_encoding}
use Rattle.rlp_records.specs.Bounded.{IsBounded, IsWithinBounds, bound_fault, count_fault, is_encoding, items_counted, read_bounded, unless_fault}
use Rattle.rlp_p2p.proofs.Messages.{body_sized, id_back, id_fails, message_back, same_read}
use Rattle.rlp_p2p.specs.Message.{Fits, Table, body_fault, bytes_of, envelopes_of, is_among, item_of, items_fault, message_at_most, message_fault, message_of, number_of, numbered_fault, numbered_of, read_of, seen_of}
use Rattle.rlp_p2p.specs.declared.message.MessageBounds.{MessageBounds}

-- ---- the bound on items

-- the encoding of an item within the bounds has no fault
within_items : (most : ℕ) (envelopes : Option ℕ) (b : List ℕ) (x : Item) → length b < 2 ^ 64 → b ≡ encoding x → IsBounded most envelopes x
    → bound_fault most envelopes b ≡ None
within_items most envelopes b x short is bounded =
    cond-true (is_encoding b) _ _ (told_encoding b short (x, is, bounded.1))
    ∙ ap (count_fault most envelopes) (raw_item_of-encoding b x short is bounded.1)
    ∙ cond-false (ltb most (items_counted envelopes x)) _ _ (le-ltb _ _ bounded.0)

module _ {M : Type 0} where
  value_by : (f : Option Fault) (a : Answer M Fault) (m : M) → (unless_fault f a).result ≡ Ok m → (f ≡ None) × (a.result ≡ Ok m)
  value_by None a m is = (refl, is)
  value_by (Some e) a m is = absurd (let bad : Err e ≡ Ok m = is in let no : ⊥ = cc in no)

  err_same : (g e : Fault) (r s : Result M Fault) → r ≡ Err g → s ≡ Err e → r ≡ s → g ≡ e
  err_same g e r s first second same = let both : r ≡ Err e = same ∙ second in let result : g ≡ e = cc in result

  -- for the body that reads within a bound
  module _ {R : Type 0} (most : ℕ) (envelopes : Option ℕ) (b : List ℕ) (read : View → Answer M Fault) (seen : R → M) where
    pub bounded_value : (r : Result R DecoderError) → IfOk r (λ w. (read_bounded most envelopes read b).result ≡ Ok (seen w))
        → IfOk r (λ w. (read (strict_view_of b)).result ≡ Ok (seen w))
    bounded_value (Ok w) is = (value_by (bound_fault most envelopes b) (read (strict_view_of b)) (seen w) is).1
    bounded_value (Err e) is = tt

    pub bounded_within : (r : Result R DecoderError) → IfOk r (λ w. (read_bounded most envelopes read b).result ≡ Ok (seen w)) → OnOk r (bound_fault most envelopes b ≡ None)
    bounded_within (Ok w) is = (value_by (bound_fault most envelopes b) (read (strict_view_of b)) (seen w) is).0
    bounded_within (Err e) is = tt

    failed_by : (e : DecoderError) (T : Type 0) → (f : Option Fault) → f ≡ bound_fault most envelopes b
        → ((unless_fault f (read (strict_view_of b))).result ≡ Err (fault_of e)) ⊎ (IsWithinBounds most envelopes b × ((e ≡ OutOfMemory) × T)) → length b < 2 ^ 64
        → (f ≡ Some (fault_of e)) ⊎ ((f ≡ None) × (((read (strict_view_of b)).result ≡ Err (fault_of e)) ⊎ (e ≡ OutOfMemory)))
    failed_by e T None is (inl fault) short = inr (refl, inl fault)
    failed_by e T (Some g) is (inl fault) short =
        inl (ap Some (err_same g (fault_of e) (unless_fault (Some g) (read (strict_view_of b))).result (Err (fault_of e)) refl refl fault))
    failed_by e T f is (inr (within, (memory, _))) short = inr (is ∙ within_items most envelopes b within.x short within.is within.bounded, inr memory)

    -- what fails is refused by the bound, or fails without it
    pub bounded_fault : (r : Result R DecoderError) (T : Type 0) → length b < 2 ^ 64
        → IfErr r (λ e. ((read_bounded most envelopes read b).result ≡ Err (fault_of e)) ⊎ (IsWithinBounds most envelopes b × ((e ≡ OutOfMemory) × T)))
        → IfErr r (λ e. (bound_fault most envelopes b ≡ Some (fault_of e))
        ⊎ ((bound_fault most envelopes b ≡ None) × (((read (strict_view_of b)).result ≡ Err (fault_of e)) ⊎ (e ≡ OutOfMemory))))
    bounded_fault (Ok w) T short h = tt
    bounded_fault (Err e) T short h = failed_by e T (bound_fault most envelopes b) refl h short

-- ---- without a bound

none_if : (t : Bool) (f : Option Fault) → f ≡ None → (if t then f else None) ≡ None
none_if true f is = is
none_if false f is = refl

module _ {M : Type 0} (table : Table M) (n : ℕ) (b : List ℕ) where
  -- without a bound on items no body is refused
  pub unrefused : body_fault table None n b ≡ None
  unrefused = none_if (is_among table.bodies.numbers n) (items_fault None (envelopes_of table n) b) refl

  pub without_bound : {R : Type 0} (A : DecoderError → Type 0) (r : Result R DecoderError)
      → IfErr r (λ e. (body_fault table None n b ≡ Some (fault_of e)) ⊎ ((body_fault table None n b ≡ None) × A e)) → IfErr r A
  without_bound A (Ok x) h = tt
  without_bound A (Err e) (inl refused) = absurd (let none = unrefused in let no : ⊥ = cc in no)
  without_bound A (Err e) (inr (none, fault)) = fault

-- ---- for the body that reads a message within bounds

module _ {M : Type 0} (table : Table M) (offset : ℕ) (most : MessageBounds) (d : List ℕ) where
  refused : (e : Fault) → message_fault table offset most d ≡ Some e
      → (message_at_most table offset most d).result ≡ Err e
  refused e is = ap (λ f. (unless_fault f (message_of table offset d)).result) is

  allowed : message_fault table offset most d ≡ None
      → (message_at_most table offset most d).result ≡ (message_of table offset d).result
  allowed is = ap (λ f. (unless_fault f (message_of table offset d)).result) is

  -- more bytes than the bound are refused
  pub too_many_bytes : most.bytes < length d
      → (message_at_most table offset most d).result ≡ Err (custom (codes "too many bytes"))
  too_many_bytes more = refused (custom (codes "too many bytes")) (cond-true (ltb most.bytes (length d)) _ _ (lt-ltb _ _ more))

  module _ (few : length d ≤ most.bytes) where
    by_id : (r : Result (ℕ × List ℕ) Fault) → numbered_of offset d ≡ r
        → message_fault table offset most d ≡ numbered_fault table (Some most.items) r
    by_id r is = cond-false (ltb most.bytes (length d)) _ _ (le-ltb _ _ few) ∙ ap (numbered_fault table (Some most.items)) is

    -- the fault of an id is the fault of the message
    pub id_fails_within : (e : DecoderError) → numbered_of offset d ≡ Err (fault_of e)
        → (message_at_most table offset most d).result ≡ Err (fault_of e)
    id_fails_within e is = allowed (by_id (Err (fault_of e)) is) ∙ id_fails table offset d e is

    module _ (n : ℕ × List ℕ) (is : numbered_of offset d ≡ Ok n) where
      pub value_within : (r : Result M DecoderError) → IfOk r (λ m. (read_of table n.0 n.1).result ≡ Ok (seen_of table m))
          → OnOk r (body_fault table (Some most.items) n.0 n.1 ≡ None)
          → IfOk r (λ m. (message_at_most table offset most d).result ≡ Ok (seen_of table m))
      value_within (Ok m) value none = allowed (by_id (Ok n) is ∙ none) ∙ same_read table offset d n is ∙ value
      value_within (Err e) value none = tt

      pub fault_within : (r : Result M DecoderError) → IfErr r (λ e. (body_fault table (Some most.items) n.0 n.1 ≡ Some (fault_of e))
          ⊎ ((body_fault table (Some most.items) n.0 n.1 ≡ None)
          × (((read_of table n.0 n.1).result ≡ Err (fault_of e)) ⊎ (e ≡ OutOfMemory))))
          → IfErr r (λ e. ((message_at_most table offset most d).result ≡ Err (fault_of e))
          ⊎ ((message_fault table offset most d ≡ None) × (e ≡ OutOfMemory)))
      fault_within (Ok m) h = tt
      fault_within (Err e) (inl bad) = inl (refused (fault_of e) (by_id (Ok n) is ∙ bad))
      fault_within (Err e) (inr (none, inl fault)) = inl (allowed (by_id (Ok n) is ∙ none) ∙ same_read table offset d n is ∙ fault)
      fault_within (Err e) (inr (none, inr memory)) = inr (by_id (Ok n) is ∙ none, memory)

    -- the bytes of a message within the bounds are refused only if memory runs out
    module _ (low : offset < 0x100) (short : length d < 2 ^ 64) (m : M) (fit : Fits table m) (is : d ≡ bytes_of table offset m)
        (bounded : IsBounded most.items (envelopes_of table (number_of table m)) (item_of table m)) where
      free : message_fault table offset most d ≡ None
      free =
          by_id (Ok (number_of table m, encoding (item_of table m))) (id_back table offset d low short m fit is)
          ∙ none_if (is_among table.bodies.numbers (number_of table m)) (bound_fault most.items (envelopes_of table (number_of table m)) (encoding (item_of table m)))
          (within_items most.items (envelopes_of table (number_of table m)) (encoding (item_of table m)) (item_of table m) (body_sized table offset d low short m fit is) refl bounded)

      given : (message_at_most table offset most d).result ≡ Ok (seen_of table m)
      given = allowed free ∙ message_back table offset d low short m fit is

      pub memory_within : {R : Type 0} (r : Result R DecoderError)
          → IfErr r (λ e. ((message_at_most table offset most d).result ≡ Err (fault_of e))
          ⊎ ((message_fault table offset most d ≡ None) × (e ≡ OutOfMemory))) → IfErr r (λ e. e ≡ OutOfMemory)
      memory_within (Ok y) h = tt
      memory_within (Err e) (inl bad) = absurd (let both = sym given ∙ bad in let no : ⊥ = cc in no)
      memory_within (Err e) (inr memory) = memory.1
