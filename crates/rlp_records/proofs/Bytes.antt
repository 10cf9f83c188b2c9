-- What follows for a body that reads a type from bytes: `law` says that the bytes of a value are read back, and no other bytes are read.
use Rattle.std.proofs.Common.{◌≡◌, ℕ, ◌^◌, ◌<◌, ◌⊎◌, inl, inr, List, length, sym, ap, ◌∙◌, subst, Result, Ok, Err, IfOk, IfErr}
use Rattle.rlp.specs.{DecoderError.DecoderError, DecoderError.TheVariants.OutOfMemory, Format.Encoding.AreBytes}
use Rattle.rlp_reading.{specs.Form.{Fault, fault_of}, proofs.StringLaws.{ReadsStrings}}

-- a type that holds a value of another type is read as the other type
pub strings_held : {A B M : Type 0} (value : B → A) (Fits : A → Type 0) (bytes : A → List ℕ) (seen : A → M) (written : M → List ℕ) (read : List ℕ → Result M Fault)
    → ReadsStrings Fits bytes seen written read → ReadsStrings (λ b. Fits (value b)) (λ b. bytes (value b)) (λ b. seen (value b)) written read
strings_held value Fits bytes seen written read law = record {
  back = λ b fit short. law.back (value b) fit short;
  only = λ d b held short is. law.only d (value b) held short is;
  fits = λ b c same fit. law.fits (value b) (value c) same fit;
  same = λ b. law.same (value b);
}

same_value : {M : Type 0} (x y : M) → (let r : Result M Fault = Ok x in r) ≡ Ok y → x ≡ y
same_value x y is = cc

module _ {A M : Type 0} (Fits : A → Type 0) (bytes : A → List ℕ) (seen : A → M) (written : M → List ℕ) (read : List ℕ → Result M Fault)
    (law : ReadsStrings Fits bytes seen written read) where
  -- contracts see values that have the same bytes as the same
  pub bytes_tell : (x y : A) → Fits x → Fits y → length (bytes x) < 2 ^ 64 → bytes x ≡ bytes y → seen x ≡ seen y
  bytes_tell x y fit other short same =
      same_value _ _ (sym (law.back x fit short) ∙ ap read same ∙ law.back y other (subst (λ d. length d < 2 ^ 64) same short))

  module _ (d : List ℕ) (short : length d < 2 ^ 64) where
    given : (x : A) → Fits x → d ≡ bytes x → read d ≡ Ok (seen x)
    given x fit is = ap read is ∙ law.back x fit (subst (λ d. length d < 2 ^ 64) is short)

    -- the bytes are all bytes of the value that is read
    pub read_whole : AreBytes d → (r : Result A DecoderError) → IfOk r (λ w. read d ≡ Ok (seen w)) → IfOk r (λ w. Fits w × (d ≡ bytes w))
    read_whole held (Ok w) is = law.only d w held short is
    read_whole held (Err e) is = tt

    -- reading the bytes of a value fails only if memory runs out
    pub read_memory : {R : Type 0} (T : Type 0) (x : A) → Fits x → d ≡ bytes x → (r : Result R DecoderError)
        → IfErr r (λ e. (read d ≡ Err (fault_of e)) ⊎ ((e ≡ OutOfMemory) × T)) → IfErr r (λ e. e ≡ OutOfMemory)
    read_memory T x fit is (Ok w) fault = tt
    read_memory T x fit is (Err e) (inl bad) = let r = sym (given x fit is) ∙ bad in absurd (let no : ⊥ = cc in no)
    read_memory T x fit is (Err e) (inr memory) = memory.0
