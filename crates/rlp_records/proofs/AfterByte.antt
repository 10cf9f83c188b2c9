-- For bodies that read a value after a byte that says what it is.
use Rattle.std.proofs.Common.{◌≡◌, ◌≢◌, ◌≤◌, ◌-◌, ◌^◌, ◌<◌, ℕ, true, List, [], ◌∷◌, ◌==◌, length, take, drop, take_all, get_or, refl, sym, ap, ◌∙◌}
use Rattle.std.proofs.{Common.{◌⊎◌, inl, inr, arith, eq-eqb, Result, Ok, Err, IfOk, IfErr, IsOkAnd}, lemmas.Bool.Decides.nat_tests}
use Rattle.rlp.specs.{DecoderError.{DecoderError}, DecoderError.TheVariants.OutOfMemory, Format.Encoding.{Item, encoding, AreBytes}, Values.Value.AreAlike, Views.View.{View, strict_view_of}}
use Rattle.rlp_reading.specs.{Form.{Answer, Fault, Form, custom, fault_of}, Laws.IsLawful, Sums.last_case}
use Rattle.rlp_reading.proofs.{StringLaws.ReadsStrings, SumLaws.{envelope_strings, last_case_lawful}}
use Rattle.rlp_records.specs.Envelope.{read_after}

module _ {M : Type 0} (kind : ℕ) (other : List ℕ) (read : View → Answer M Fault) where
  -- bytes whose first is the byte give what the rest gives
  pub after_kind : (d payload : List ℕ) → d ≡ kind ∷ payload → (read_after kind other read d).result ≡ (read (strict_view_of payload)).result
  after_kind d payload is = ap (λ d. (read_after kind other read d).result) is ∙ (let same : (kind == kind) ≡ true = eq-eqb kind kind refl in grind arith)

  -- bytes that are empty or begin with another byte give a custom fault
  pub after_other : (d : List ℕ) → ((payload : List ℕ) → d ≢ kind ∷ payload) → (read_after kind other read d).result ≡ Err (custom other)
  after_other [] differ = refl
  after_other (first ∷ payload) differ = grind (arith, nat_tests, differ payload)

-- bytes whose first is the byte, and the rest of them
pub with_first : (kind : ℕ) (d : List ℕ) → 1 ≤ length d → get_or d 0 0 ≡ kind → d ≡ kind ∷ take (length d - 1) (drop 1 d)
with_first kind [] some first = absurd (omega arith)
with_first kind (b ∷ d) some first = grind (arith, take_all (length d) d)

module _ {A : Type 0} (kind : ℕ) (other : List ℕ) (c : Form A) (law : IsLawful c) where
  after_only : (d : List ℕ) (x : A) → AreBytes d → length d < 2 ^ 64 → (read_after kind other c.reading.read d).result ≡ Ok (c.reading.seen x)
      → c.Fits x × (d ≡ kind ∷ encoding (c.item x))
  after_only [] x held short is = absurd (let no : ⊥ = cc in no)
  after_only (first ∷ payload) x held short is =
      (envelope_strings (last_case other kind c) (last_case_lawful other kind c law)).only (first ∷ payload) x held short is

  -- the bytes of a value after the byte are read back, and no other bytes are read
  pub after_strings : ReadsStrings c.Fits (λ x. kind ∷ encoding (c.item x)) c.reading.seen (λ m. kind ∷ encoding (c.reading.item m))
      (λ d. (read_after kind other c.reading.read d).result)
  after_strings =
      let strings = envelope_strings (last_case other kind c) (last_case_lawful other kind c law) in
      record { back = strings.back; only = after_only; fits = strings.fits; same = strings.same }

module _ (kind : ℕ) (d payload : List ℕ) (is : d ≡ kind ∷ payload) where
  -- what follows the byte is the rest
  pub same_rest : (s : List ℕ) → d ≡ kind ∷ s → payload ≡ s
  same_rest s same = let both : kind ∷ payload ≡ kind ∷ s = sym is ∙ same in cc

  -- the value that was read from the rest is that of the bytes
  pub rest_whole : {R : Type 0} (r : Result R DecoderError) (fits : R → Type 0) (item : R → Item) → IfOk r (λ w. fits w × (payload ≡ encoding (item w)))
      → IfOk r (λ w. fits w × (d ≡ kind ∷ encoding (item w)))
  rest_whole (Ok w) fits item (fit, whole) = (fit, is ∙ ap (λ s. kind ∷ s) whole)
  rest_whole (Err e) fits item whole = tt

  -- so are the bytes those of each value alike
  pub rest_only : {R : Type 0} (r : Result R DecoderError) (item : R → Item) (v : R) → (IsOkAnd r (λ w. AreAlike item w v) → payload ≡ encoding (item v))
      → IfOk r (λ w. AreAlike item w v → d ≡ kind ∷ encoding (item v))
  rest_only (Ok w) item v only = λ alike. is ∙ ap (λ s. kind ∷ s) (only alike)
  rest_only (Err e) item v only = tt

  module _ {A : Type 0} (other : List ℕ) (c : Form A) where
    -- the bytes give the value that the rest is the encoding of
    pub rest_given : IsLawful c → length d < 2 ^ 64 → (r : Result A DecoderError) → IfOk r (λ w. c.Fits w × (payload ≡ encoding (c.item w)))
        → IfOk r (λ w. (read_after kind other c.reading.read d).result ≡ Ok (c.reading.seen w))
    rest_given law short (Ok w) (fit, whole) =
        after_kind kind other c.reading.read d payload is ∙ (law.back true).back payload w (omega (arith, short, ap length is)) fit whole
    rest_given law short (Err e) whole = tt

    -- the bytes have the fault of the rest
    pub rest_fails : {R : Type 0} (T U : Type 0) (r : Result R DecoderError)
        → IfErr r (λ e. ((c.reading.read (strict_view_of payload)).result ≡ Err (fault_of e)) ⊎ ((e ≡ OutOfMemory) × (T × U)))
        → IfErr r (λ e. ((read_after kind other c.reading.read d).result ≡ Err (fault_of e)) ⊎ ((e ≡ OutOfMemory) × T))
    rest_fails T U (Ok w) fault = tt
    rest_fails T U (Err e) (inl bad) = inl (after_kind kind other c.reading.read d payload is ∙ bad)
    rest_fails T U (Err e) (inr memory) = inr (memory.0, memory.1.0)
