-- Values of the types of EIP-2718: what their payloads say of them, and the bytes of a value by themselves.
use Rattle.std.proofs.Common.{◌≡◌, ℕ, ◌<◌, ◌⊎◌, inl, inr, true, ◌∷◌, refl, sym, ap, ◌∙◌, arith, Some, None}
use Rattle.rlp.specs.{Codec.plain, Format.Encoding.{Item, is_list, string, encoding}, Values.Sums.sum_item}
use Rattle.rlp_reading.{specs.{Sums.{CasesForm, envelope}}, proofs.StringLaws.{ReadsStrings}}
use Rattle.rlp_records.proofs.{Alone.{alone_strings, list_alone}, Bytes.strings_held}
use Rattle.rlp_records.specs.{Alone.bytes_alone, Eip2718.{TypedSum, number_on_right, payload_item, type_number, typed, typed_alone}}

module _ {A B : Type 0} (item : A → Item) (cases : CasesForm B) where
  -- the item of a value
  abbrev whole : A ⊎ B → Item
  whole s = sum_item item (λ y. string (envelope cases y)) s

  list_item : (s : A ⊎ B) → number_on_right cases.tag s ≡ None → sum_item item cases.item s ≡ whole s
  list_item (inl x) is = refl
  list_item (inr y) is = absurd (let no : ⊥ = cc in no)

  list_is : ((x : A) → is_list (item x) ≡ true) → (s : A ⊎ B) → number_on_right cases.tag s ≡ None → is_list (whole s) ≡ true
  list_is lists (inl x) is = lists x
  list_is lists (inr y) is = absurd (let no : ⊥ = cc in no)

  envelope_item : (s : A ⊎ B) (kind : ℕ) → number_on_right cases.tag s ≡ Some kind → string (kind ∷ encoding (sum_item item cases.item s)) ≡ whole s
  envelope_item (inl x) kind is = absurd (let no : ⊥ = cc in no)
  envelope_item (inr y) kind is = let same : cases.tag y ≡ kind = cc in ap (λ k. string (k ∷ encoding (cases.item y))) (sym same)

module _ {A : Type 0} (t : TypedSum A) where
  -- ---- writing

  -- a value of the type without a number is the list itself
  pub without_number : (x : A) → type_number t x ≡ None → payload_item t x ≡ (typed t).item x
  without_number x is = list_item t.legacy.item t.numbered.cases (t.as_sum x) is

  -- a value of a type with a number is the string of the envelope
  pub with_number : (x : A) (kind : ℕ) → type_number t x ≡ Some kind → string (kind ∷ encoding (payload_item t x)) ≡ (typed t).item x
  with_number x kind is = envelope_item t.legacy.item t.numbered.cases (t.as_sum x) kind is

  pub without_number_alone : (x : A) → type_number t x ≡ None → encoding (payload_item t x) ≡ bytes_alone ((typed t).item x)
  without_number_alone x is =
      ap encoding (without_number x is)
      ∙ sym (list_alone ((typed t).item x) (list_is t.legacy.item t.numbered.cases t.lists (t.as_sum x) is))

  pub with_number_alone : (x : A) (kind : ℕ) → type_number t x ≡ Some kind → kind ∷ encoding (payload_item t x) ≡ bytes_alone ((typed t).item x)
  with_number_alone x kind is = ap bytes_alone (with_number x kind is)

  -- ---- bytes by themselves

  low : (y : t.Numbered) → t.numbered.cases.tag y < 0xc0
  low y = let small = t.known y in omega (arith, small)

  -- the bytes of a value are read back, and no other bytes are read
  pub typed_strings : ReadsStrings (typed t).Fits (λ x. bytes_alone ((typed t).item x)) (typed t).reading.seen (λ m. bytes_alone ((typed t).reading.item m))
      (λ d. (typed_alone t d).result)
  typed_strings =
      strings_held t.as_sum _ _ _ _ _ (alone_strings (plain t.legacy) t.numbered.cases t.lists low t.legacy.reads_strictly t.numbered.laws)
