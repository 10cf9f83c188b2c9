-- A result agrees with how a proof of a value ends.
use Rattle.std.proofs.Common.{◌≡◌, ◌∙◌, ◌⊎◌, inl, inr, ap, ℕ, List, Option, Result, Ok, Err, IfOk, IfErr, refl, subst, sym}
use Rattle.std.specs.{Global.Vec, Prelude.{IsErrAnd, option_map}, Vec.vec_items}
use Rattle.rlp_trie.specs.{ProofWalk.{IsSameKind, ProofGives}, declared.proof.ProofFault.ProofFault}
use Rattle.rlp_trie.specs.declared.proof.ProofFault.TheVariants as trie
use Rattle.rlp_state.specs.{Agreement.Agrees, Faults.{IsSameFault, proof_fault}, State.{Reads, Says, proves_none, reads_value}}
use Rattle.rlp_state.specs.declared.fault.StateFault.{StateFault}
use Rattle.rlp_state.specs.declared.fault.StateFault.TheVariants.{OutOfMemory, Proof}

-- a fault of the nodes is of the kind of the fault with which the walk ends
kind_kept : (e f : ProofFault) (s : StateFault) → s ≡ proof_fault e → IsSameKind e f ⊎ (e ≡ trie.OutOfMemory)
    → IsSameFault s (Proof f) ⊎ (s ≡ OutOfMemory)
kind_kept trie.OutOfMemory f s is why = inr is
kind_kept e f s is (inl same) = inl (subst (λ s. IsSameFault s (Proof f)) (sym is) same)
kind_kept e f s is (inr lacks) = absurd (let no : ⊥ = cc in no)

module _ {A B : Type 0} (Same : A → B → Type 0) (IsValue : Option (List ℕ) → Result B StateFault → Type 0) (root key hashed : List ℕ) (nodes : List (List ℕ))
    (same : key ≡ hashed) where
  -- what the result agrees with
  pub record Ends (r : Result A StateFault) : Type 0 where
    pub found : (y : B) → Reads (ProofGives root hashed nodes) IsValue (Ok y) → IfOk r (λ x. Same x y)
    pub memory : (y : B) → Reads (ProofGives root hashed nodes) IsValue (Ok y) → IfErr r (λ e. e ≡ OutOfMemory)
    pub refused : (f : StateFault) → Reads (ProofGives root hashed nodes) IsValue (Err f) → IsErrAnd r (λ e. IsSameFault e f ⊎ (e ≡ OutOfMemory))

  ends : (r : Result A StateFault) → ((outcome : Result B StateFault) → Reads (ProofGives root hashed nodes) IsValue outcome → Agrees Same r outcome) → Ends r
  ends (Ok x) agrees = record { found = λ y gives. agrees (Ok y) gives; memory = λ y gives. tt; refused = λ f gives. agrees (Err f) gives }
  ends (Err e) agrees = record { found = λ y gives. tt; memory = λ y gives. agrees (Ok y) gives; refused = λ f gives. agrees (Err f) gives }

  walked : (outcome : Result (Option (List ℕ)) ProofFault) → ProofGives root hashed nodes outcome → ProofGives root key nodes outcome
  walked outcome gives = subst (λ k. ProofGives root k nodes outcome) (sym same) gives

  value_agrees : (v : Option (List ℕ)) (r : Result A StateFault) → ((w : Option (List ℕ)) → ProofGives root key nodes (Ok w) → v ≡ w)
      → ((f : ProofFault) → ProofGives root key nodes (Err f) → ⊥) → ((outcome : Result B StateFault) → IsValue v outcome → Agrees Same r outcome)
      → (outcome : Result B StateFault) → Reads (ProofGives root hashed nodes) IsValue outcome → Agrees Same r outcome
  value_agrees v r one none reads outcome (reads_value w _ gives is) =
      reads outcome (subst (λ w. IsValue w outcome) (sym (one w (walked (Ok w) gives))) is)
  value_agrees v r one none reads outcome (proves_none f gives) = absurd (none f (walked (Err f) gives))

  -- the nodes prove a value
  value_ends : (v : Option (List ℕ)) (r : Result A StateFault) → ((w : Option (List ℕ)) → ProofGives root key nodes (Ok w) → v ≡ w)
      → ((f : ProofFault) → ProofGives root key nodes (Err f) → ⊥) → ((outcome : Result B StateFault) → IsValue v outcome → Agrees Same r outcome) → Ends r
  value_ends v r one none reads = ends r (value_agrees v r one none reads)

  fault_agrees : (e : ProofFault) (s : StateFault) → s ≡ proof_fault e → ((w : Option (List ℕ)) → ProofGives root key nodes (Ok w) → e ≡ trie.OutOfMemory)
      → ((f : ProofFault) → ProofGives root key nodes (Err f) → IsSameKind e f ⊎ (e ≡ trie.OutOfMemory))
      → (outcome : Result B StateFault) → Reads (ProofGives root hashed nodes) IsValue outcome → Agrees Same (Err s) outcome
  fault_agrees e s is lacks kinds (Ok y) (reads_value w _ gives value) = is ∙ ap proof_fault (lacks w (walked (Ok w) gives))
  fault_agrees e s is lacks kinds (Err g) (reads_value w _ gives value) = inr (is ∙ ap proof_fault (lacks w (walked (Ok w) gives)))
  fault_agrees e s is lacks kinds _ (proves_none f gives) = kind_kept e f s is (kinds f (walked (Err f) gives))

  -- the nodes prove nothing
  fault_ends : (e : ProofFault) (s : StateFault) → s ≡ proof_fault e → ((w : Option (List ℕ)) → ProofGives root key nodes (Ok w) → e ≡ trie.OutOfMemory)
      → ((f : ProofFault) → ProofGives root key nodes (Err f) → IsSameKind e f ⊎ (e ≡ trie.OutOfMemory)) → Ends (Err s)
  fault_ends e s is lacks kinds = ends (Err s) (fault_agrees e s is lacks kinds)

  -- why nothing is returned
  value_faults : (v : Option (List ℕ)) (r : Result A StateFault) → Says root key nodes (Ok v) → IfErr r (λ e. IsValue v (Err e))
      → IfErr r (λ e. Reads (Says root hashed nodes) IsValue (Err e) ⊎ (e ≡ OutOfMemory))
  value_faults v (Ok x) has why = tt
  value_faults v (Err e) has is = inl (reads_value v (Err e) (subst (λ k. Says root k nodes (Ok v)) same has) is)

  proof_faults : (e : ProofFault) (s : StateFault) → s ≡ proof_fault e → ProofGives root key nodes (Err e) ⊎ (e ≡ trie.OutOfMemory)
      → Reads (Says root hashed nodes) IsValue (Err s) ⊎ (s ≡ OutOfMemory)
  proof_faults trie.OutOfMemory s is why = inr is
  proof_faults e s is (inl gives) =
      inl (subst (λ s. Reads (Says root hashed nodes) IsValue (Err s)) (sym is) (proves_none e (subst (λ k. ProofGives root k nodes (Err e)) same gives)))
  proof_faults e s is (inr lacks) = absurd (let no : ⊥ = cc in no)

  -- ---- the proof of a value, and what is returned by it

  pub whole_ends : (v : Result (Option (Vec ℕ)) ProofFault) (r : Result A StateFault)
      → ((w : Option (List ℕ)) → ProofGives root key nodes (Ok w) → IfOk v (λ g. option_map vec_items g ≡ w))
      → ((w : Option (List ℕ)) → ProofGives root key nodes (Ok w) → IfErr v (λ e. e ≡ trie.OutOfMemory))
      → ((f : ProofFault) → ProofGives root key nodes (Err f) → IsErrAnd v (λ e. IsSameKind e f ⊎ (e ≡ trie.OutOfMemory)))
      → IfErr v (λ e. r ≡ Err (proof_fault e))
      → IfOk v (λ g. (outcome : Result B StateFault) → IsValue (option_map vec_items g) outcome → Agrees Same r outcome) → Ends r
  whole_ends (Ok g) r found memory refused keeps reads = value_ends (option_map vec_items g) r found refused reads
  whole_ends (Err e) r found memory refused keeps reads = subst Ends (sym keeps) (fault_ends e (proof_fault e) refl memory refused)

  pub whole_faults : (v : Result (Option (Vec ℕ)) ProofFault) (r : Result A StateFault) → IfOk v (λ g. Says root key nodes (Ok (option_map vec_items g)))
      → IfErr v (λ e. ProofGives root key nodes (Err e) ⊎ (e ≡ trie.OutOfMemory)) → IfErr v (λ e. r ≡ Err (proof_fault e))
      → IfOk v (λ g. IfErr r (λ e. IsValue (option_map vec_items g) (Err e)))
      → IfErr r (λ e. Reads (Says root hashed nodes) IsValue (Err e) ⊎ (e ≡ OutOfMemory))
  whole_faults (Ok g) r proved fault keeps bad = value_faults (option_map vec_items g) r proved bad
  whole_faults (Err e) r proved fault keeps bad =
      subst (λ r. IfErr r (λ e. Reads (Says root hashed nodes) IsValue (Err e) ⊎ (e ≡ OutOfMemory))) (sym keeps) (proof_faults e (proof_fault e) refl fault)

  pub whole_holds : (Has : A → Type 0) (v : Result (Option (Vec ℕ)) ProofFault) (r : Result A StateFault) → IfOk v (λ g. Says root key nodes (Ok (option_map vec_items g)))
      → IfErr v (λ e. r ≡ Err (proof_fault e)) → (Read : Option (List ℕ) → A → Type 0) → IfOk v (λ g. IfOk r (λ x. Read (option_map vec_items g) x))
      → ((w : Option (List ℕ)) → Says root hashed nodes (Ok w) → IfOk r (λ x. Read w x) → IfOk r Has) → IfOk r Has
  whole_holds Has (Ok g) r proved keeps Read reads has =
      has (option_map vec_items g) (subst (λ k. Says root k nodes (Ok (option_map vec_items g))) same proved) reads
  whole_holds Has (Err e) r proved keeps Read reads has = subst (λ r. IfOk r Has) (sym keeps) tt
