-- Values of a type, or strings that aren't items of the type, are read back, and are read only from their encodings.
use Rattle.std.proofs.Common.{◌≡◌, ℕ, ◌^◌, ◌<◌, ◌⊎◌, inl, inr, Bool, true, false, IsTrue, List, [], ◌∷◌, length, refl, sym, ap, ◌∙◌, subst}
use Rattle.std.proofs.{Common.{arith, leb-true, Result, Ok, Err}, lemmas.Bool.Decides.nat_tests}
use Rattle.rlp.specs.{Codec.Codec, DecoderError.DecoderError, DecoderError.TheVariants.RlpExpectedToBeData, Views.View.{View, Holds, HoldsItem, strict_view_of, view_string}}
use Rattle.rlp.specs.{Format.Encoding.{Item, is_list, list, string, encoding, AreBytes}, Format.Framing.begins_as_list, Values.Sums.{sum_item}}
use Rattle.rlp_reading.specs.{Format.Framing.read_string, Form.{Fault, Form, map_value, seen_fault, string_of}, Laws.{GivesOnly, IsLawful, viewed}, Sums.{CasesForm, envelope}}
use Rattle.rlp_reading.proofs.{Lemmas.Strings.string_list, Lemmas.StringsHeld.{ReadsHeld, held_begins, held_fault, held_only, held_reads}}
use Rattle.rlp_reading.proofs.{Lemmas.Views.list_first, SumLaws.{sums_fit, sums_written}}
use Rattle.rlp_records.specs.{Envelope.four_types, OtherEnvelope.{IsOther, authorization_magic, is_other, is_other_type, or_string, string_or}}

-- a view that holds a list holds no string
no_string : (v : View) (x : Item) → length v.bytes < 2 ^ 64 → HoldsItem v x → is_list x ≡ true → view_string v ≡ Err RlpExpectedToBeData
no_string v x fits holds kind =
    held_fault v RlpExpectedToBeData (by v.bytes (list_first x v.bytes fits (held_begins v x holds) kind))
  where
    by : (b : List ℕ) → begins_as_list b ≡ true → read_string b ≡ Err RlpExpectedToBeData
    by [] kind = absurd (let no : ⊥ = cc in no)
    by (first ∷ rest) kind = string_list first rest (leb-true 0xc0 first kind)

same_string : (d e : List ℕ) → string d ≡ string e → d ≡ e
same_string d e same = cc

module _ {A : Type 0} (c : Form A) (is : List ℕ → Bool) (apart : (x : A) (d : List ℕ) → IsTrue (is d) → ¬ (c.item x ≡ string d)) where
  -- what a view whose string is r gives
  abbrev chosen : View → Result (List ℕ) Fault → Result (c.reading.M ⊎ List ℕ) Fault
  chosen v r = (string_or is (c.reading.read v) r).result

  value_by : (v : View) (x : A) (i : Item) → length v.bytes < 2 ^ 64 → HoldsItem v i → c.item x ≡ i
      → chosen v (string_of v) ≡ map_value inl (c.reading.read v).result
  value_by v x (list xs) fits holds same = ap (λ r. chosen v (seen_fault r)) (no_string v (list xs) fits holds refl)
  value_by v x (string d) fits holds same =
      ap (λ r. chosen v (seen_fault r)) (held_only v d fits holds) ∙ (let other = apart x d in grind (arith, nat_tests))

  or_back : IsLawful c → (is_strict : Bool) (b : List ℕ) (s : A ⊎ List ℕ) → length b < 2 ^ 64 → (or_string c is).Fits s
      → Holds is_strict b (encoding (sum_item c.item string s)) → chosen (viewed is_strict b) (string_of (viewed is_strict b)) ≡ Ok ((or_string c is).reading.seen s)
  or_back law is_strict b (inl x) fits fit holds =
      value_by (viewed is_strict b) x (c.item x) fits holds refl ∙ ap (map_value inl) ((law.back is_strict).back b x fits fit holds)
  or_back law is_strict b (inr d) fits fit holds =
      ap (λ r. chosen (viewed is_strict b) (seen_fault r)) (held_only (viewed is_strict b) d fits holds) ∙ grind arith

  or_only : GivesOnly true c → (b : List ℕ) (s : A ⊎ List ℕ) (r : Result (List ℕ) DecoderError) → AreBytes b → length b < 2 ^ 64 → ReadsHeld true b r
      → chosen (strict_view_of b) (seen_fault r) ≡ Ok ((or_string c is).reading.seen s)
      → (or_string c is).Fits s × (b ≡ encoding (sum_item c.item string s))
  or_only law b (inl x) (Err e) bytes fits held given = grind (arith, law.only b x bytes fits)
  or_only law b (inr y) (Err e) bytes fits held given = grind arith
  or_only law b (inl x) (Ok d) bytes fits held given = let whole : b ≡ encoding (string d) = held in grind (arith, law.only b x bytes fits)
  or_only law b (inr y) (Ok d) bytes fits held given = let whole : b ≡ encoding (string d) = held in grind arith

  pub or_lawful : IsLawful c → IsLawful (or_string c is)
  or_lawful law = record {
    told = record {
      fits = sums_fit c.reading.seen (λ d. d) c.Fits (λ d. IsTrue (is d)) law.told.fits (λ d e same. subst (λ d. IsTrue (is d)) same);
      written = sums_written c.reading.seen (λ d. d) c.item string c.reading.item string law.told.written (λ d. refl);
    };
    back = λ is_strict. record { back = or_back law is_strict };
    exact = record {
      only = λ b s bytes fits given. or_only law.exact b s (view_string (strict_view_of b)) bytes fits (held_reads (strict_view_of b) bytes fits) given;
    };
  }

-- ---- envelopes of types that aren't known

-- the number of a type that is known isn't the number of another type
pub is_known : (kind : ℕ) → kind < authorization_magic → is_other_type kind ≡ false
is_known kind small = grind (arith, nat_tests)

-- each of the numbers is below the MAGIC of EIP-7702
pub below_magic : {A B C D : Type 0} (a : Codec A) (b : Codec B) (c : Codec C) (d : Codec D) (y : A ⊎ (B ⊎ (C ⊎ D)))
    → (four_types a b c d).cases.tag y < authorization_magic
below_magic a b c d (inl x) = omega arith
below_magic a b c d (inr (inl x)) = omega arith
below_magic a b c d (inr (inr (inl x))) = omega arith
below_magic a b c d (inr (inr (inr x))) = omega arith

-- No value of a known type is written as the string of another type: it is a list, or the string of the envelope of a known type.
pub known_apart : {A B : Type 0} (item : A → Item) (cases : CasesForm B) → ((x : A) → is_list (item x) ≡ true) → ((y : B) → is_other_type (cases.tag y) ≡ false)
    → (s : A ⊎ B) (d : List ℕ) → IsOther d → ¬ (sum_item item (λ y. string (envelope cases y)) s ≡ string d)
known_apart item cases lists known (inl x) d other same = let kinds : true ≡ false = sym (lists x) ∙ ap is_list same in cc
known_apart item cases lists known (inr y) d other same =
    let kinds : true ≡ false = sym other ∙ ap is_other (sym (same_string (envelope cases y) d same)) ∙ known y in cc
