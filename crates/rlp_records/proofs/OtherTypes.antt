-- Values of every type by themselves, also of the types that aren't known: the bytes of a value are read back, and no other bytes are read.
use Rattle.std.proofs.{Common.{◌≡◌, ℕ, ◌^◌, ◌<◌, ◌⊎◌, inl, inr, Bool, true, false, IsTrue, List, [], ◌∷◌, length, refl, subst, Result, Ok, arith}, lemmas.Bool.Decides.nat_tests}
use Rattle.rlp.specs.{Format.Encoding.{AreBytes, Item, is_list, string}, Format.Framing.begins_as_list, Values.Sums.{OnSum, sum_item}}
use Rattle.rlp_reading.{specs.{Form.{Answer, Fault}, Sums.{CasesForm, envelope, sum_map}}, proofs.{StringLaws.ReadsStrings, SumLaws.sums_fit}}
use Rattle.rlp_records.proofs.{Alone.{left_only, list_alone_begins, not_left}, Bytes.strings_held, TypedSums.typed_strings}
use Rattle.rlp_records.specs.{Alone.bytes_alone, OtherEnvelope.{is_other, is_other_type, string_or}, OtherStringLaws.is_known}
use Rattle.rlp_records.specs.{Eip2718.{TypedSum, typed, typed_alone}, KnownOrOther.{any_alone, value_or_bytes, with_others}}

-- a list isn't the bytes of another type
pub list_known : (d : List ℕ) → begins_as_list d ≡ true → is_other d ≡ false
list_known [] kind = refl
list_known (first ∷ rest) kind = grind (arith, nat_tests)

-- the bytes of a value of a type that is known aren't the bytes of another type
pub known_bytes : {A B : Type 0} (item : A → Item) (cases : CasesForm B) → ((x : A) → is_list (item x) ≡ true) → ((y : B) → is_other_type (cases.tag y) ≡ false)
    → (s : A ⊎ B) → length (bytes_alone (sum_item item (λ y. string (envelope cases y)) s)) < 2 ^ 64
    → is_other (bytes_alone (sum_item item (λ y. string (envelope cases y)) s)) ≡ false
known_bytes item cases lists known (inl x) short = list_known (bytes_alone (item x)) (list_alone_begins (item x) (lists x) short)
known_bytes item cases lists known (inr y) short = known y

module _ {A M : Type 0} (is : List ℕ → Bool) (Fits : A → Type 0) (item : A → Item) (seen : A → M) (written : M → Item) (read : List ℕ → Answer M Fault)
    (law : ReadsStrings Fits (λ x. bytes_alone (item x)) seen (λ m. bytes_alone (written m)) (λ d. (read d).result))
    (apart : (x : A) → length (bytes_alone (item x)) < 2 ^ 64 → is (bytes_alone (item x)) ≡ false) where
  -- the bytes of a value, or the string itself
  abbrev bytes_or : A ⊎ List ℕ → List ℕ
  bytes_or s = bytes_alone (sum_item item string s)

  abbrev read_or : List ℕ → Result (M ⊎ List ℕ) Fault
  read_or d = (string_or is (read d) (Ok d)).result

  or_back : (s : A ⊎ List ℕ) → OnSum Fits (λ d. IsTrue (is d)) s → length (bytes_or s) < 2 ^ 64 → read_or (bytes_or s) ≡ Ok (sum_map seen (λ d. d) s)
  or_back (inl x) fit short = grind (arith, apart x short, law.back x fit short)
  or_back (inr d) fit short = grind arith

  or_only : (d : List ℕ) (s : A ⊎ List ℕ) → AreBytes d → length d < 2 ^ 64 → read_or d ≡ Ok (sum_map seen (λ d. d) s)
      → OnSum Fits (λ d. IsTrue (is d)) s × (d ≡ bytes_or s)
  or_only d (inl x) held short given = grind (arith, law.only d x held short, left_only {N = List ℕ} (read d).result (seen x))
  or_only d (inr e) held short given = grind (arith, not_left {M = M} {N = List ℕ} (read d).result e)

  written_by : (s : A ⊎ List ℕ) → bytes_alone (sum_item written string (sum_map seen (λ d. d) s)) ≡ bytes_or s
  written_by (inl x) = law.same x
  written_by (inr d) = refl

  pub or_strings : ReadsStrings (OnSum Fits (λ d. IsTrue (is d))) bytes_or (sum_map seen (λ d. d)) (λ m. bytes_alone (sum_item written string m)) read_or
  or_strings = record {
    back = or_back;
    only = or_only;
    fits = sums_fit seen (λ d. d) Fits (λ d. IsTrue (is d)) law.fits (λ d e same. subst (λ d. IsTrue (is d)) same);
    same = written_by;
  }

-- values of every type, by themselves
pub any_strings : {A : Type 0} (t : TypedSum A) → ReadsStrings (with_others t).Fits (λ x. bytes_alone ((with_others t).item x)) (with_others t).reading.seen
    (λ m. bytes_alone ((with_others t).reading.item m)) (λ d. (any_alone t d).result)
any_strings t =
    strings_held value_or_bytes _ _ _ _ _
    (or_strings is_other (typed t).Fits (typed t).item (typed t).reading.seen (typed t).reading.item (typed_alone t) (typed_strings t)
    (λ x. known_bytes t.legacy.item t.numbered.cases t.lists (λ y. is_known (t.numbered.cases.tag y) (t.known y)) (t.as_sum x)))
