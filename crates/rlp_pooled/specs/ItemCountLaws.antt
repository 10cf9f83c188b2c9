-- Values of two structs that differ in the number of items of their lists are read back, and are read only from their encodings.
use Rattle.std.proofs.{Common.{ℕ, ◌<◌, ◌==◌, ◌^◌, ◌∙◌, ◌≡◌, ◌⊎◌, Bool, List, Ok, Result, ap, eq-eqb, false, inl, inr, length, refl, sym, true}, lemmas.Bool.{cond-false, cond-true}}
use Rattle.rlp.specs.{Format.Encoding.{AreBytes, encoding}, Views.View.{Holds, View, item_count, strict_view_of}}
use Rattle.rlp_reading.proofs.{Lemmas.WholeLists.held_count, StructLaws.struct_lawful, SumLaws.{sums_fit, sums_written}}
use Rattle.rlp_reading.specs.{Form.{Fault, FieldsForm, map_value, struct_of}, Laws.{AreLawful, IsLawful, viewed}}
use Rattle.rlp_records.proofs.Alone.{left_only, not_left, not_right, result_same, right_only}
use Rattle.rlp_pooled.specs.ItemCounts.{by_count, is_count}

module _ {A B : Type 0} (f : FieldsForm A) (g : FieldsForm B) (fixed : f.reading.is_fixed ≡ true) (also : g.reading.is_fixed ≡ true)
    (differ : (g.reading.width == f.reading.width) ≡ false) (first : AreLawful f) (second : AreLawful g) where
  -- what a view gives
  abbrev given : View → Result (f.reading.M ⊎ g.reading.M) Fault
  given v = ((by_count f g).reading.read v).result

  first_counted : (is_strict : Bool) (b : List ℕ) (x : A) → length b < 2 ^ 64 → Holds is_strict b (encoding ((struct_of f).item x))
      → is_count f.reading.width (item_count (viewed is_strict b)) ≡ true
  first_counted is_strict b x fits holds =
      ap (is_count f.reading.width) (held_count (viewed is_strict b) (f.items x) fits holds)
      ∙ ap (λ n. n == f.reading.width) ((first.back is_strict).wide x fixed) ∙ eq-eqb f.reading.width f.reading.width refl

  second_counted : (is_strict : Bool) (b : List ℕ) (y : B) → length b < 2 ^ 64 → Holds is_strict b (encoding ((struct_of g).item y))
      → is_count f.reading.width (item_count (viewed is_strict b)) ≡ false
  second_counted is_strict b y fits holds =
      ap (is_count f.reading.width) (held_count (viewed is_strict b) (g.items y) fits holds)
      ∙ ap (λ n. n == f.reading.width) ((second.back is_strict).wide y also) ∙ differ

  count_back : (is_strict : Bool) (b : List ℕ) (s : A ⊎ B) → length b < 2 ^ 64 → (by_count f g).Fits s → Holds is_strict b (encoding ((by_count f g).item s))
      → given (viewed is_strict b) ≡ Ok ((by_count f g).reading.seen s)
  count_back is_strict b (inl x) fits fit holds =
      result_same (cond-true (is_count f.reading.width (item_count (viewed is_strict b))) _ _ (first_counted is_strict b x fits holds))
      ∙ ap (map_value inl) (((struct_lawful f first).back is_strict).back b x fits fit holds)
  count_back is_strict b (inr y) fits fit holds =
      result_same (cond-false (is_count f.reading.width (item_count (viewed is_strict b))) _ _ (second_counted is_strict b y fits holds))
      ∙ ap (map_value inr) (((struct_lawful g second).back is_strict).back b y fits fit holds)

  count_only : (b : List ℕ) (s : A ⊎ B) (told : Bool) → AreBytes b → length b < 2 ^ 64 → is_count f.reading.width (item_count (strict_view_of b)) ≡ told
      → given (strict_view_of b) ≡ Ok ((by_count f g).reading.seen s) → (by_count f g).Fits s × (b ≡ encoding ((by_count f g).item s))
  count_only b (inl x) true bytes fits told is =
      (struct_lawful f first).exact.only b x bytes fits
      (left_only _ _ (sym (result_same (cond-true (is_count f.reading.width (item_count (strict_view_of b))) _ _ told)) ∙ is))
  count_only b (inl x) false bytes fits told is =
      absurd (not_right _ _ (sym (result_same (cond-false (is_count f.reading.width (item_count (strict_view_of b))) _ _ told)) ∙ is))
  count_only b (inr y) true bytes fits told is =
      absurd (not_left _ _ (sym (result_same (cond-true (is_count f.reading.width (item_count (strict_view_of b))) _ _ told)) ∙ is))
  count_only b (inr y) false bytes fits told is =
      (struct_lawful g second).exact.only b y bytes fits
      (right_only _ _ (sym (result_same (cond-false (is_count f.reading.width (item_count (strict_view_of b))) _ _ told)) ∙ is))

  pub by_count_lawful : IsLawful (by_count f g)
  by_count_lawful = record {
    told = record {
      fits = sums_fit f.reading.seen g.reading.seen f.Fits g.Fits (struct_lawful f first).told.fits (struct_lawful g second).told.fits;
      written = sums_written f.reading.seen g.reading.seen (struct_of f).item (struct_of g).item (struct_of f).reading.item (struct_of g).reading.item
          (struct_lawful f first).told.written (struct_lawful g second).told.written;
    };
    back = λ is_strict. record { back = count_back is_strict };
    exact = record { only = λ b s bytes fits is. count_only b s (is_count f.reading.width (item_count (strict_view_of b))) bytes fits refl is };
  }
