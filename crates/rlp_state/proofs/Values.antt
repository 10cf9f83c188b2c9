-- What the values of the tries of the state are read as.
use Rattle.std.proofs.Common.{◌≡◌, ◌^◌, ◌<◌, ◌∙◌, ◌⊎◌, inl, inr, ap, ℕ, true, false, arith, List, length, Option, Some, None, option_map, Result, Ok, Err, IfOk, refl, subst, sym}
use Rattle.rlp.specs.{Codec.{number, uint}, DecoderError.DecoderError, Form.{Faults, MayLackMemory, Reading}, Format.Encoding.{IsSized, Item, encoding, string}, Values.Value.{FitsBytes, number_item}, Views.View.{View, strict_view_of}}
use Rattle.rlp.specs.DecoderError.TheVariants as decoder
use Rattle.std.specs.Int.Digits.{number_from_digits}
use Rattle.rlp_format.specs.declared.uint.Uint.{Uint}
use Rattle.rlp_format.proofs.Lemmas.Digits.{big_endian_same}
use Rattle.rlp_reading.proofs.{Corollaries.not_both, Lemmas.Items.{encoding_same}}
use Rattle.rlp_trie.specs.{Lookup.HasValue, ProofWalk.IsKnown}
use Rattle.rlp_headers.specs.{Account.account, declared.account.Account.Account}
use Rattle.rlp_state.specs.{Agreement.Agrees, State.{HasAccount, HasSlot, IsAccountValue, IsSlotValue, account_path, slot_path}}
use Rattle.rlp_state.specs.declared.fault.StateFault.{StateFault}
use Rattle.rlp_state.specs.declared.fault.StateFault.TheVariants.{FaultyAccount, FaultySlot, OutOfMemory, Proof}

abbrev pub SameAccount : Option Account → Option Account → Type 0
SameAccount found wanted = option_map account.item found ≡ option_map account.item wanted

abbrev pub SameNumber : Uint 32 → ℕ → Type 0
SameNumber number n = number_from_digits 256 number.bytes ≡ n

module _ (b : List ℕ) (short : length b < 2 ^ 64) where
  sized : (x : Item) → b ≡ encoding x → IsSized x
  sized x is = subst (λ d. length d < 2 ^ 64) is short

  one_item : (x y : Item) → b ≡ encoding x → b ≡ encoding y → x ≡ y
  one_item x y is also = encoding_same x y (sized x is) (sized y also) (sym is ∙ also)

  -- ---- accounts

  account_sound : (a : Account) (e : DecoderError) → account.Fits a → b ≡ encoding (account.item a) → ¬ Faults account.reading (strict_view_of b) e
  account_sound a e fit is = not_both account.reading (strict_view_of b) a e ((account.reads_strictly.back true).back b a short fit is)

  pub account_read : (a : Account) → account.Fits a → b ≡ encoding (account.item a) → (outcome : Result (Option Account) StateFault) → IsAccountValue (Some b) outcome
      → Agrees SameAccount (Ok (Some a)) outcome
  account_read a fit is (Ok None) given = absurd given
  account_read a fit is (Ok (Some w)) (also, are) = ap Some (one_item (account.item a) (account.item w) is are)
  account_read a fit is (Err (FaultyAccount e)) bad = absurd (account_sound a e fit is bad)
  account_read a fit is (Err (Proof e)) given = absurd given
  account_read a fit is (Err (FaultySlot e)) given = absurd given
  account_read a fit is (Err OutOfMemory) given = absurd given

  pub account_unread : (e : DecoderError) → Faults account.reading (strict_view_of b) e → (outcome : Result (Option Account) StateFault)
      → IsAccountValue (Some b) outcome → Agrees SameAccount (Err (FaultyAccount e)) outcome
  account_unread e bad (Ok None) given = absurd given
  account_unread e bad (Ok (Some w)) (also, are) = absurd (account_sound w e also are bad)
  account_unread e bad (Err (FaultyAccount f)) given = inl tt
  account_unread e bad (Err (Proof f)) given = absurd given
  account_unread e bad (Err (FaultySlot f)) given = absurd given
  account_unread e bad (Err OutOfMemory) given = absurd given

  -- ---- numbers in slots

  slot_sound : (n : ℕ) (e : DecoderError) → FitsBytes 32 n → b ≡ encoding (number_item n) → ¬ Faults (uint 32).reading (strict_view_of b) e
  slot_sound n e fit is = not_both (number 32).reading (strict_view_of b) n e (((number 32).reads_strictly.back true).back b n short fit is)

  pub slot_read : (u : Uint 32) → (uint 32).Fits u → b ≡ encoding ((uint 32).item u) → (outcome : Result ℕ StateFault) → IsSlotValue (Some b) outcome
      → Agrees SameNumber (Ok u) outcome
  slot_read u fit is (Ok n) (also, are) =
      let m = number_from_digits 256 u.bytes in
      let items : number_item m ≡ number_item n = one_item (number_item m) (number_item n) is are in
      big_endian_same m n (cc)
  slot_read u fit is (Err (FaultySlot e)) bad = absurd (slot_sound (number_from_digits 256 u.bytes) e fit is bad)
  slot_read u fit is (Err (Proof e)) given = absurd given
  slot_read u fit is (Err (FaultyAccount e)) given = absurd given
  slot_read u fit is (Err OutOfMemory) given = absurd given

  pub slot_unread : (e : DecoderError) → Faults (uint 32).reading (strict_view_of b) e → (outcome : Result ℕ StateFault) → IsSlotValue (Some b) outcome
      → Agrees SameNumber (Err (FaultySlot e)) outcome
  slot_unread e bad (Ok n) (also, are) = absurd (slot_sound n e also are bad)
  slot_unread e bad (Err (FaultySlot f)) given = inl tt
  slot_unread e bad (Err (Proof f)) given = absurd given
  slot_unread e bad (Err (FaultyAccount f)) given = absurd given
  slot_unread e bad (Err OutOfMemory) given = absurd given

-- a type that doesn't allocate is refused only for a fault of the bytes
pub faulty : {A : Type 0} (r : Reading A) (v : View) (e : DecoderError) → r.takes_memory ≡ false → Faults r v e ⊎ ((e ≡ decoder.OutOfMemory) × MayLackMemory r v)
    → Faults r v e
faulty r v e none (inl bad) = bad
faulty r v e none (inr (lacks, (takes, may))) = absurd (let no : ⊥ = grind (arith, none, takes) in no)

-- ---- no value

pub no_account : (outcome : Result (Option Account) StateFault) → IsAccountValue None outcome → Agrees SameAccount (Ok None) outcome
no_account (Ok None) given = refl
no_account (Ok (Some w)) given = absurd given
no_account (Err e) given = absurd given

pub no_number : (u : Uint 32) → number_from_digits 256 u.bytes ≡ 0 → (outcome : Result ℕ StateFault) → IsSlotValue None outcome → Agrees SameNumber (Ok u) outcome
no_number u is (Ok n) given = is ∙ sym given
no_number u is (Err e) given = absurd given

-- ---- what the trie has

pub account_has : (root address : List ℕ) (nodes : List (List ℕ)) (v : Option (List ℕ)) (r : Result (Option Account) StateFault)
    → HasValue (IsKnown nodes) (string root) (account_path address) v → IfOk r (λ found. IsAccountValue v (Ok found)) → IfOk r (HasAccount root address nodes)
account_has root address nodes None (Ok None) has is = record { fits = tt; has = has }
account_has root address nodes None (Ok (Some a)) has is = absurd is
account_has root address nodes (Some b) (Ok None) has is = absurd is
account_has root address nodes (Some b) (Ok (Some a)) has (fit, is) =
    record { fits = fit; has = subst (λ b. HasValue (IsKnown nodes) (string root) (account_path address) (Some b)) is has }
account_has root address nodes v (Err e) has is = tt

pub slot_has : (root slot : List ℕ) (nodes : List (List ℕ)) (v : Option (List ℕ)) (r : Result (Uint 32) StateFault)
    → HasValue (IsKnown nodes) (string root) (slot_path slot) v → IfOk r (λ number. IsSlotValue v (Ok (number_from_digits 256 number.bytes)))
    → IfOk r (λ number. HasSlot root slot nodes (number_from_digits 256 number.bytes))
slot_has root slot nodes v (Ok u) has is = record { value = v; is = is; has = has }
slot_has root slot nodes v (Err e) has is = tt
