-- The walk over the proofs of slots, and the whole proof of a state.
use Rattle.std.proofs.Common.{◌≡◌, ◌+◌, ◌<◌, ◌≤◌, ◌∙◌, ◌⊎◌, ⊎_elim, inl, inr, ap, ℕ, suc, List, [], ◌∷◌, ◌++◌, length, map, take, drop, get_or, Option, Some, None, option_map, Result, Ok, Err, refl, subst, sym, arith, append-nil, append_assoc, drop-cons}
use Rattle.std.proofs.lemmas.{List.{drop_all, map-append, take_all, take_more}, Option.slice_get_read, Slice.Zip.all_zipped_more}
use Rattle.std.specs.{Global.Vec, List.slice_get, Prelude.{IsSomeAnd}, Vec.vec_items}
use Rattle.rlp.specs.Form.{map_value}
use Rattle.rlp_format.specs.declared.uint.Uint.{Uint}
use Rattle.rlp_headers.specs.{Account.account, declared.account.Account.Account}
use Rattle.rlp_state.specs.{Faults.IsSameFault, State.{GivesAccount, GivesSlot, HasAccount, HasAccountFault, HasSlot, HasSlotFault}}
use Rattle.rlp_state.specs.StateProofs.{GivesSlots, GivesState, HasSlotsFault, HasStateFault, HaveSlots, IsSamePlaced, IsState, StateAgrees, at_account, at_slot, faulty_account, faulty_slot, no_slots, number_in, right_account, right_slot, storage_root}
use Rattle.rlp_state.specs.{declared.fault.StateFault.StateFault, declared.state_proof.ProvedState.ProvedState, declared.state_proof.SlotProof.SlotProof, declared.state_proof.StateProof.StateProof}
use Rattle.rlp_state.specs.declared.fault.StateFault.TheVariants as fault
use Rattle.rlp_state.specs.declared.state_proof.StateProofFault.{StateProofFault}
use Rattle.rlp_state.specs.declared.state_proof.StateProofFault.TheVariants as placed

pub lacks_agree : {A B : Type 0} (Same : A → B → Type 0) (e : StateProofFault) (outcome : Result B StateProofFault) → e ≡ placed.OutOfMemory
    → StateAgrees Same (Err e) outcome
lacks_agree Same e (Ok y) lacks = lacks
lacks_agree Same e (Err f) lacks = inr lacks

-- ---- slots

abbrev Outcome : Type 0
Outcome = Result (List ℕ) StateProofFault

-- these numbers, and then the numbers of the outcome
abbrev after : List (Uint 32) → Outcome → Outcome
after numbers outcome = map_value (λ ns. map number_in numbers ++ ns) outcome

-- before this place the slots hold the numbers, and the proofs end as the proofs from this place on do
pub record IsOnWay (root : List ℕ) (slots : List SlotProof) (place : ℕ) (numbers : List (Uint 32)) : Type 0 where
  pub has : HaveSlots root (take place slots) numbers
  pub back : (outcome : Outcome) → GivesSlots root 0 slots outcome → (rest : Outcome) × GivesSlots root place (drop place slots) rest × (outcome ≡ after numbers rest)

after_none : (outcome : Outcome) → outcome ≡ after [] outcome
after_none (Ok ns) = refl
after_none (Err e) = refl

pub at_start : (root : List ℕ) (slots : List SlotProof) → IsOnWay root slots 0 []
at_start root slots = record { has = tt; back = λ outcome gives. (outcome, gives, after_none outcome) }

after_more : (numbers : List (Uint 32)) (u : Uint 32) (n : ℕ) (outcome : Outcome) → number_in u ≡ n
    → after numbers (map_value (λ ns. n ∷ ns) outcome) ≡ after (numbers ++ u ∷ []) outcome
after_more numbers u n (Ok ns) is =
    ap Ok (rw (map-append number_in numbers (u ∷ [])) (rw (append_assoc) (ap (λ m. map number_in numbers ++ (m ∷ ns)) (sym is))))
after_more numbers u n (Err e) is = refl

abbrev Ends : List ℕ → SlotProof → Result ℕ StateFault → Type 0
Ends root p outcome = GivesSlot root p.slot (map vec_items p.nodes.now) outcome

-- how the proofs end by the first of them
inverted : (root : List ℕ) (place : ℕ) (p : SlotProof) (left ps : List SlotProof) (rest : Outcome) → left ≡ p ∷ ps → GivesSlots root place left rest
    → ((e : StateFault) × Ends root p (Err e) × (rest ≡ Err (placed.Slot place e)))
    ⊎ ((n : ℕ) × (o : Outcome) × Ends root p (Ok n) × GivesSlots root (place + 1) ps o × (rest ≡ map_value (λ ns. n ∷ ns) o))
inverted root place p left ps rest is (no_slots _) = absurd (let no : ⊥ = cc in no)
inverted root place p left ps rest is (faulty_slot _ q qs e gives) =
    let first : q ≡ p = cc in inl (e, subst (λ q. Ends root q (Err e)) first gives, refl)
inverted root place p left ps rest is (right_slot _ n q qs o gives more) =
    let first : q ≡ p = cc in
    let others : qs ≡ ps = cc in
    inr (n, o, subst (λ q. Ends root q (Ok n)) first gives, subst (λ qs. GivesSlots root (place + 1) qs o) others more, refl)

none_left : (root : List ℕ) (place : ℕ) (left : List SlotProof) (rest : Outcome) → left ≡ [] → GivesSlots root place left rest → rest ≡ Ok []
none_left root place left rest is (no_slots _) = refl
none_left root place left rest is (faulty_slot _ q qs e gives) = absurd (let no : ⊥ = cc in no)
none_left root place left rest is (right_slot _ n q qs o gives more) = absurd (let no : ⊥ = cc in no)

at_slot_kind : (place : ℕ) (s e : StateFault) (t : StateProofFault) → t ≡ at_slot place s → IsSameFault s e ⊎ (s ≡ fault.OutOfMemory)
    → IsSamePlaced t (placed.Slot place e) ⊎ (t ≡ placed.OutOfMemory)
at_slot_kind place fault.OutOfMemory e t is why = inr is
at_slot_kind place s e t is (inl same) = inl (subst (λ t. IsSamePlaced t (placed.Slot place e)) (sym is) (refl, same))
at_slot_kind place s e t is (inr lacks) = absurd (let no : ⊥ = cc in no)

module _ (root : List ℕ) (slots : List SlotProof) (place : ℕ) (numbers : List (Uint 32)) (way : IsOnWay root slots place numbers) where
  -- no slot is left
  pub ends_ok : {V : Type 0} (items : V → List (Uint 32)) (v : V) → items v ≡ numbers → length slots ≤ place → (outcome : Outcome) → GivesSlots root 0 slots outcome
      → StateAgrees (λ v wanted. map number_in (items v) ≡ wanted) (Ok v) outcome
  ends_ok items v same all outcome gives =
      let (rest, more, is) = way.back outcome gives in
      let last : rest ≡ Ok [] = none_left root place (drop place slots) rest (drop_all place slots all) more in
      let whole : outcome ≡ Ok (map number_in numbers) = is ∙ ap (after numbers) last ∙ ap Ok (append-nil (map number_in numbers)) in
      subst (λ o. StateAgrees (λ v wanted. map number_in (items v) ≡ wanted) (Ok v) o) (sym whole) (ap (map number_in) same)

  pub have_ok : length slots ≤ place → HaveSlots root slots numbers
  have_ok all = subst (λ ps. HaveSlots root ps numbers) (take_all place slots all) way.has

  module _ (p : SlotProof) (here : place < length slots) (at : p ≡ get_or slots place p) where
    left_is : drop place slots ≡ p ∷ drop (place + 1) slots
    left_is = drop-cons slots place p here ∙ ap (λ q. q ∷ drop (suc place) slots) (sym at) ∙ ap (λ n. p ∷ drop n slots) (let e : suc place ≡ place + 1 = omega arith in e)

    -- the next slot holds a number
    pub one_more : (u : Uint 32) → HasSlot root p.slot (map vec_items p.nodes.now) (number_in u) → ((n : ℕ) → Ends root p (Ok n) → number_in u ≡ n)
        → ((e : StateFault) → Ends root p (Err e) → ⊥) → IsOnWay root slots (place + 1) (numbers ++ u ∷ [])
    one_more u holds found refused = record {
      has = subst (λ ps. HaveSlots root ps (numbers ++ u ∷ [])) (sym (take_more slots place p here ∙ ap (λ q. take place slots ++ q ∷ []) (sym at)))
          (all_zipped_more _ (take place slots) numbers p u way.has holds);
      back = λ outcome gives.
          let (rest, more, is) = way.back outcome gives in
          ⊎_elim
          (λ (e, bad, none). absurd (refused e bad))
          (λ (n, o, good, others, same). (o, others, is ∙ ap (after numbers) same ∙ after_more numbers u n o (found n good)))
          (inverted root place p (drop place slots) (drop (place + 1) slots) rest left_is more);
    }

    -- the next proof has a fault
    pub fails_only : {V : Type 0} (Same : V → List ℕ → Type 0) (s : StateFault) (t : StateProofFault) → t ≡ at_slot place s
        → ((n : ℕ) → Ends root p (Ok n) → s ≡ fault.OutOfMemory) → ((e : StateFault) → Ends root p (Err e) → IsSameFault s e ⊎ (s ≡ fault.OutOfMemory))
        → (outcome : Outcome) → GivesSlots root 0 slots outcome → StateAgrees Same (Err t) outcome
    fails_only Same s t is lacks kinds outcome gives =
        let (rest, more, same) = way.back outcome gives in
        ⊎_elim
        (λ (e, bad, none). subst (λ o. StateAgrees Same (Err t) o) (sym (same ∙ ap (after numbers) none)) (at_slot_kind place s e t is (kinds e bad)))
        (λ (n, o, good, others, with). lacks_agree Same t outcome (is ∙ ap (at_slot place) (lacks n good)))
        (inverted root place p (drop place slots) (drop (place + 1) slots) rest left_is more)

    pub fails_at : (s : StateFault) (t : StateProofFault) → t ≡ at_slot place s
        → HasSlotFault root p.slot (map vec_items p.nodes.now) s ⊎ (s ≡ fault.OutOfMemory) → HasSlotsFault root slots t ⊎ (t ≡ placed.OutOfMemory)
    fails_at fault.OutOfMemory t is why = inr is
    fails_at s t is (inl bad) =
        let there : slice_get slots place ≡ Some p = slice_get_read slots (length slots) place p refl here at in
        inl (subst (λ t. HasSlotsFault root slots t) (sym is)
        (subst (λ q. IsSomeAnd q (λ p. HasSlotFault root p.slot (map vec_items p.nodes.now) s)) (sym there) bad))
    fails_at s t is (inr lacks) = absurd (let no : ⊥ = cc in no)

-- ---- the whole proof

-- accounts that are alike have one storage root
storage_same : (a w : Option Account) → option_map account.item a ≡ option_map account.item w → storage_root a ≡ storage_root w
storage_same None None same = refl
storage_same None (Some w) same = absurd (let no : ⊥ = cc in no)
storage_same (Some a) None same = absurd (let no : ⊥ = cc in no)
storage_same (Some a) (Some w) same = let roots : a.storage_root.0 ≡ w.storage_root.0 = cc in roots

abbrev pub Numbers : Type 0
Numbers = Vec (Uint 32)

abbrev pub SameVec : Numbers → List ℕ → Type 0
SameVec numbers wanted = map number_in (vec_items numbers) ≡ wanted

-- the account with the numbers
abbrev with_account : Option Account → Result Numbers StateProofFault → Result ProvedState StateProofFault
with_account a (Ok v) = Ok (record { account = a; slots = v })
with_account a (Err t) = Err t

joined : (a w : Option Account) (r : Result Numbers StateProofFault) (o : Outcome) → option_map account.item a ≡ option_map account.item w
    → StateAgrees SameVec r o → StateAgrees IsState (with_account a r) (map_value (λ ns. (w, ns)) o)
joined a w (Ok v) (Ok ns) same agrees = (same, agrees)
joined a w (Ok v) (Err f) same agrees = agrees
joined a w (Err t) (Ok ns) same agrees = agrees
joined a w (Err t) (Err f) same agrees = agrees

module _ (root : List ℕ) (p : StateProof) where
  abbrev AccountEnds : Result (Option Account) StateFault → Type 0
  AccountEnds outcome = GivesAccount root p.address.0 (map vec_items p.account_nodes.now) outcome

  pub right_agrees : (a : Option Account) (storage : List ℕ) (r : Result Numbers StateProofFault) → storage ≡ storage_root a
      → ((w : Option Account) → AccountEnds (Ok w) → option_map account.item a ≡ option_map account.item w) → ((e : StateFault) → AccountEnds (Err e) → ⊥)
      → ((o : Outcome) → GivesSlots storage 0 p.slots.now o → StateAgrees SameVec r o)
      → (outcome : Result (Option Account × List ℕ) StateProofFault) → GivesState root p outcome → StateAgrees IsState (with_account a r) outcome
  right_agrees a storage r is found refused only outcome (faulty_account e gives) = absurd (refused e gives)
  right_agrees a storage r is found refused only outcome (right_account w o gives slots) =
      let same : option_map account.item a ≡ option_map account.item w = found w gives in
      joined a w r o same (only o (subst (λ s. GivesSlots s 0 p.slots.now o) (sym (is ∙ storage_same a w same)) slots))

  pub account_fails : (s : StateFault) (t : StateProofFault) → t ≡ at_account s
      → HasAccountFault root p.address.0 (map vec_items p.account_nodes.now) s ⊎ (s ≡ fault.OutOfMemory) → HasStateFault root p t ⊎ (t ≡ placed.OutOfMemory)
  account_fails fault.OutOfMemory t is why = inr is
  account_fails s t is (inl bad) = inl (subst (λ t. HasStateFault root p t) (sym is) bad)
  account_fails s t is (inr lacks) = absurd (let no : ⊥ = cc in no)

  pub slots_fail : (a : Option Account) (storage : List ℕ) (t : StateProofFault) → storage ≡ storage_root a
      → HasAccount root p.address.0 (map vec_items p.account_nodes.now) a → HasSlotsFault storage p.slots.now t ⊎ (t ≡ placed.OutOfMemory)
      → HasStateFault root p t ⊎ (t ≡ placed.OutOfMemory)
  slots_fail a storage t is has (inr lacks) = inr lacks
  slots_fail a storage (placed.Slot place e) is has (inl bad) =
      inl (a, has, subst (λ s. HasSlotsFault s p.slots.now (placed.Slot place e)) is bad)
  slots_fail a storage (placed.Account e) is has (inl bad) = absurd bad
  slots_fail a storage placed.OutOfMemory is has (inl bad) = absurd bad
