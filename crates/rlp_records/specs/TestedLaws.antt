-- Values that pass a test are read back, and are read only from their encodings.
use Rattle.std.proofs.Common.{◌≡◌, ◌↔◌, Bool, true, false, if◌then◌else◌, ℕ, List, Ok, Err, ap, refl, subst, ◌∙◌}
use Rattle.rlp.specs.Codec.{Codec}
use Rattle.rlp_reading.{specs.{Form.{and_then, custom}, Laws.{GivesOnly, IsLawful, ReadsBack, viewed}}, proofs.ListLaws.{goes_on}}
use Rattle.rlp_records.specs.TestedForm.{Passes, passing, tested_form}

module _ {A : Type 0} (text : List ℕ) (c : Codec A) (test : c.reading.M → Bool) (Fits : A → Type 0) (same : (x : A) → Fits x ↔ Passes c test x) where
  tested_back : (is_strict : Bool) → ReadsBack is_strict (tested_form text c test Fits)
  tested_back is_strict = record {
    back = λ b x few fit holds.
        ap (λ r. and_then r (passing text test)) ((c.reads_strictly.back is_strict).back b x few ((same x).0 fit).0 holds)
        ∙ ap (λ t. if t then Ok (c.reading.seen x) else Err (custom text)) ((same x).0 fit).1;
  }

  passed : (m n : c.reading.M) (t : Bool) → test m ≡ t → (if t then Ok m else Err (custom text)) ≡ Ok n → (m ≡ n) × (test n ≡ true)
  passed m n true is gives = let e : m ≡ n = cc in (e, subst (λ k. test k ≡ true) e is)
  passed m n false is gives = absurd (let no : ⊥ = cc in no)

  tested_only : GivesOnly true (tested_form text c test Fits)
  tested_only = record {
    only = λ b x bytes few is.
        let g = goes_on (c.reading.read (viewed true b)).result (passing text test) (c.reading.seen x) is in
        let p = passed g.value (c.reading.seen x) (test g.value) refl g.then in
        let h = c.reads_strictly.exact.only b x bytes few (g.is ∙ ap Ok p.0) in
        ((same x).1 (h.0, p.1), h.1);
  }

  pub tested_lawful : IsLawful (tested_form text c test Fits)
  tested_lawful = record {
    told = record {
      fits = λ x y alike fit.
          (same y).1 (c.reads_strictly.told.fits x y alike ((same x).0 fit).0, subst (λ m. test m ≡ true) alike ((same x).0 fit).1);
      written = c.reads_strictly.told.written;
    };
    back = tested_back;
    exact = tested_only;
  }
