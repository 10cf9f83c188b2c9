-- The bytes of a message are read back, and from nothing else, and they tell messages apart.
use Rattle.std.proofs.Common.{ℕ, ⊎_elim, ◌++◌, ◌+◌, ◌-◌, ◌<◌, ◌^◌, ◌∙◌, ◌≡◌, ◌≤◌, ◌⊎◌, Bool, Err, IfErr, IfOk, List, Ok, Result, ap, arith, drop, drop_at, false, le-ltb, length, length-append, ltb, ltb-false, refl, subst, sym, true}
use Rattle.std.proofs.{lemmas.Bool.{cond-false, cond-true}, lemmas.List.Elements.{All-from_recursion, recursion_from_All}}
use Rattle.rlp_format.proofs.{Lemmas.Digits.{big_endian_same}, Lemmas.Encodings.{front_sized}, Lemmas.Lists.{same_front}}
use Rattle.rlp_reading.proofs.Lemmas.Items.{prefix_free}
use Rattle.rlp.specs.{DecoderError.DecoderError, DecoderError.TheVariants.OutOfMemory, Form.{Gives, and_then, custom, fault_of, number}, Views.View.{View, view_of}}
use Rattle.rlp.specs.{Format.Encoding.{AreBytes, BeginsWith, IsSized, big_endian, encoding}, Values.RawItem.view_frame, Values.Value.{FitsBytes, number_item}}
use Rattle.rlp_reading.proofs.{FieldLaws.{ok_same}, Lemmas.Reading.{Bytes, back_bytes}, ListLaws.{goes_on}, RawLaws.{view_frame-held}, StringLaws.{number_lawful, number_scalar}}
use Rattle.rlp_p2p.specs.Message.{Fits, Table, after_id, bytes_of, item_of, message_of, number_of, numbered_of, read_of, seen_of, unknown_message}

-- numbers that are written as one item are the same
number_same : (m n : ℕ) → number_item m ≡ number_item n → m ≡ n
number_same m n same = big_endian_same m n (let digits : big_endian m ≡ big_endian n = cc in digits)

-- bytes that begin with two numbers begin with one number, and what follows is the same
pub same_number : (m n : ℕ) (p q : List ℕ) → length (encoding (number_item m) ++ p) < 2 ^ 64
    → encoding (number_item m) ++ p ≡ encoding (number_item n) ++ q → (m ≡ n) × (p ≡ q)
same_number m n p q short same =
    let b = encoding (number_item m) ++ p in
    let items = prefix_free (number_item m) (number_item n) p q (front_sized (number_item m) b p short refl) (front_sized (number_item n) b q short same) same in
    (number_same m n items, (same_front (encoding (number_item m)) (encoding (number_item n)) p q (ap (λ x. length (encoding x)) items) same).1)

module _ (offset : ℕ) where
  -- an id from the offset on is read, and the bytes after the id are left
  after : (d : List ℕ) (n : ℕ) (body : List ℕ) → d ≡ encoding (number_item (offset + n)) ++ body → after_id offset d (offset + n) ≡ Ok (n, body)
  after d n body is =
      cond-false (ltb (offset + n) offset) _ _ (le-ltb _ _ (omega arith))
      ∙ ap (λ k. Ok (k, drop (length (encoding (number_item (offset + n)))) d)) (let same : offset + n - offset ≡ n = omega arith in same)
      ∙ ap (λ rest. Ok (n, rest)) (ap (drop (length (encoding (number_item (offset + n))))) is
      ∙ drop_at (encoding (number_item (offset + n))) body (length (encoding (number_item (offset + n)))) refl)

  pub numbered_back : (d : List ℕ) (n : ℕ) (body : List ℕ) → length d < 2 ^ 64 → FitsBytes 8 (offset + n) → d ≡ encoding (number_item (offset + n)) ++ body
      → numbered_of offset d ≡ Ok (n, body)
  numbered_back d n body short fit is =
      ap (λ r. and_then r (after_id offset d)) (((number_lawful 8).back false).back d (offset + n) short fit (body, is)) ∙ after d n body is

  below_by : (d : List ℕ) (id : ℕ) (m : ℕ × List ℕ) (below : Bool) → ltb id offset ≡ below → after_id offset d id ≡ Ok m
      → (id ≡ offset + m.0) × (drop (length (encoding (number_item id))) d ≡ m.1)
  below_by d id m true low is =
      let r : after_id offset d id ≡ Err (custom unknown_message) = cond-true (ltb id offset) _ _ low in absurd (let no : ⊥ = cc in no)
  below_by d id m false low is =
      let r : after_id offset d id ≡ Ok (id - offset, drop (length (encoding (number_item id))) d) = cond-false (ltb id offset) _ _ low in
      let same : (id - offset, drop (length (encoding (number_item id))) d) ≡ m = cc in
      let high : offset ≤ id = ltb-false _ _ low in
      let first : id - offset ≡ m.0 = ap (λ p. p.0) same in
      (omega arith, ap (λ p. p.1) same)

  -- only such bytes are read
  pub numbered_only : (d : List ℕ) (m : ℕ × List ℕ) → AreBytes d → length d < 2 ^ 64 → numbered_of offset d ≡ Ok m
      → d ≡ encoding (number_item (offset + m.0)) ++ m.1
  numbered_only d m bytes short is =
      let g = goes_on ((number 8).reading.read (view_of d)).result (after_id offset d) m is in
      let h = below_by d g.value m (ltb g.value offset) refl g.then in
      let (rest, whole) = ((number_scalar 8).only d g.value bytes short g.is).1 in
      let left : drop (length (encoding (number_item g.value))) d ≡ rest =
      ap (drop (length (encoding (number_item g.value)))) whole ∙ drop_at (encoding (number_item g.value)) rest (length (encoding (number_item g.value))) refl in
      whole ∙ ap (λ k. encoding (number_item k) ++ rest) h.0 ∙ ap (λ rest. encoding (number_item (offset + m.0)) ++ rest) (sym left ∙ h.1)

-- ---- for the body that reads an id

module _ (v : View) (d : List ℕ) (id : ℕ) (is : v ≡ view_of d) (bytes : AreBytes d) (fits : length d < 2 ^ 64) (given : Gives (number 8).reading v id) where
  begins : BeginsWith d (encoding (number_item id))
  begins = ((number_scalar 8).only d id bytes fits (subst (λ v. Gives (number 8).reading v id) is given)).1

  framed : view_frame v ≡ Ok (encoding (number_item id))
  framed = ap view_frame is ∙ view_frame-held (view_of d) (number_item id) fits begins

  -- the first item is the id
  pub split_id : (item rest : List ℕ) (n : ℕ) → id ≡ n → view_frame v ≡ Ok item → v.bytes ≡ item ++ rest → d ≡ encoding (number_item n) ++ rest
  split_id item rest n same front whole =
      let both : Ok item ≡ Ok (encoding (number_item id)) = sym front ∙ framed in
      let equal : item ≡ encoding (number_item id) = cc in
      ap (λ (w : View). w.bytes) (sym is) ∙ whole ∙ ap (λ f. f ++ rest) equal ∙ ap (λ k. encoding (number_item k) ++ rest) same

  -- the message is read by the id
  pub split_read : (offset n : ℕ) (body : List ℕ) → id ≡ offset + n → d ≡ encoding (number_item (offset + n)) ++ body → numbered_of offset d ≡ Ok (n, body)
  split_read offset n body same whole =
      ap (λ r. and_then r (after_id offset d)) (subst (λ v. Gives (number 8).reading v id) is given) ∙ ap (after_id offset d) same ∙ after offset d n body whole

  -- there is a first item
  pub some_item : (e : DecoderError) → view_frame v ≡ Err e → ⊥
  some_item e none = let first = framed in cc

rest_bytes : (d first rest : List ℕ) → AreBytes d → d ≡ first ++ rest → AreBytes rest
rest_bytes d first rest bytes is =
    All-from_recursion (λ byte. byte < 2 ^ 8) rest
    (back_bytes first rest (subst Bytes is (recursion_from_All (λ byte. byte < 2 ^ 8) d bytes)))

module _ {M : Type 0} (table : Table M) (offset : ℕ) where
  module _ (d : List ℕ) where
    -- ---- the bytes of a message are read back

    module _ (low : offset < 0x100) (short : length d < 2 ^ 64) (m : M) (fit : Fits table m) (is : d ≡ bytes_of table offset m) where
      pub body_sized : IsSized (item_of table m)
      body_sized =
          omega (arith, short, ap length is, length-append (encoding (number_item (offset + number_of table m))) (encoding (item_of table m)))

      pub id_back : numbered_of offset d ≡ Ok (number_of table m, encoding (item_of table m))
      id_back =
          let id_fits : FitsBytes 8 (offset + number_of table m) = omega (arith, table.bodies.small (table.body m), low) in
          numbered_back offset d (number_of table m) (encoding (item_of table m)) short id_fits is

      pub message_back : (message_of table offset d).result ≡ Ok (seen_of table m)
      message_back =
          ap (λ r. and_then r (λ (n : ℕ × List ℕ). (read_of table n.0 n.1).result)) id_back
          ∙ table.bodies.cases.laws.back true (encoding (item_of table m)) (table.body m) body_sized fit refl

      -- reading the bytes of a message fails only if memory runs out
      pub memory_message : {R : Type 0} (r : Result R DecoderError)
          → IfErr r (λ e. ((message_of table offset d).result ≡ Err (fault_of e)) ⊎ (e ≡ OutOfMemory)) → IfErr r (λ e. e ≡ OutOfMemory)
      memory_message (Ok y) h = tt
      memory_message (Err e) h =
          ⊎_elim (λ bad. absurd (let both = sym message_back ∙ bad in let no : ⊥ = cc in no)) (λ memory. memory) h

    -- ---- and from nothing else

    message_only : (m : M) → AreBytes d → length d < 2 ^ 64 → (message_of table offset d).result ≡ Ok (seen_of table m)
        → Fits table m × (d ≡ bytes_of table offset m)
    message_only m bytes short is =
        let g = goes_on (numbered_of offset d) (λ (n : ℕ × List ℕ). (read_of table n.0 n.1).result) (seen_of table m) is in
        let whole = numbered_only offset d g.value bytes short g.is in
        let front = encoding (number_item (offset + g.value.0)) in
        let h = table.bodies.cases.laws.only g.value.0 g.value.1 (table.body m) (rest_bytes d front g.value.1 bytes whole)
        (omega (arith, short, ap length whole, length-append front g.value.1)) g.then in (
          h.0,
          whole ∙ ap (λ k. encoding (number_item (offset + k)) ++ g.value.1) h.1
              ∙ ap (λ rest. encoding (number_item (offset + number_of table m)) ++ rest) h.2,
        )

    -- ---- for bodies that read a message

    -- the fault of an id is the fault of the message
    pub id_fails : (e : DecoderError) → numbered_of offset d ≡ Err (fault_of e) → (message_of table offset d).result ≡ Err (fault_of e)
    id_fails e is = ap (λ r. and_then r (λ (n : ℕ × List ℕ). (read_of table n.0 n.1).result)) is

    module _ (n : ℕ × List ℕ) (is : numbered_of offset d ≡ Ok n) where
      -- what the body of the message gives is what the message gives
      pub same_read : (message_of table offset d).result ≡ (read_of table n.0 n.1).result
      same_read = ap (λ r. and_then r (λ (n : ℕ × List ℕ). (read_of table n.0 n.1).result)) is

      module _ (r : Result M DecoderError) where
        pub body_value : IfOk r (λ m. (read_of table n.0 n.1).result ≡ Ok (seen_of table m))
            → IfOk r (λ m. (message_of table offset d).result ≡ Ok (seen_of table m))
        body_value value = subst (λ a. IfOk r (λ m. a ≡ Ok (seen_of table m))) (sym same_read) value

        pub body_fails : IfErr r (λ e. ((read_of table n.0 n.1).result ≡ Err (fault_of e)) ⊎ (e ≡ OutOfMemory))
            → IfErr r (λ e. ((message_of table offset d).result ≡ Err (fault_of e)) ⊎ (e ≡ OutOfMemory))
        body_fails fault = subst (λ a. IfErr r (λ e. (a ≡ Err (fault_of e)) ⊎ (e ≡ OutOfMemory))) (sym same_read) fault

      -- a message is read only from its bytes
      pub message_whole : AreBytes d → length d < 2 ^ 64 → (r : Result M DecoderError)
          → IfOk r (λ m. (read_of table n.0 n.1).result ≡ Ok (seen_of table m))
          → IfOk r (λ m. Fits table m × (d ≡ bytes_of table offset m))
      message_whole bytes short (Ok m) value = message_only m bytes short (same_read ∙ value)
      message_whole bytes short (Err e) value = tt

  -- messages with the same bytes are seen alike
  pub message_told : (one other : M) → Fits table one → Fits table other → length (bytes_of table offset one) < 2 ^ 64
      → bytes_of table offset one ≡ bytes_of table offset other → seen_of table one ≡ seen_of table other
  message_told one other fit fits short same =
      let first = encoding (number_item (offset + number_of table one)) in
      let b = encoding (item_of table one) in
      let both = same_number (offset + number_of table one) (offset + number_of table other) b (encoding (item_of table other)) short same in
      let sized : length b < 2 ^ 64 = omega (arith, short, length-append first b) in
      let numbers : number_of table one ≡ number_of table other = omega (arith, both.0) in
      ok_same _ _
      (sym (table.bodies.cases.laws.back true b (table.body one) sized fit refl)
      ∙ ap (λ k. (read_of table k b).result) numbers
      ∙ table.bodies.cases.laws.back true b (table.body other) sized fits both.1)
