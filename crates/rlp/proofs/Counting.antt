-- What a struct gives, by the number of items that a view has.
use Rattle.std.proofs.{Common.{ap, refl, sym, ◌∙◌, ◌∷◌, ◌≡◌, ◌≢◌, ℕ, ◌-◌, true, false, List, [], length, None, Some, Ok, Err, arith}, lemmas.List.length-map}
use Rattle.std.specs.List.{slice_get}
use Rattle.rlp_reading.specs.{declared.error.DecoderError.DecoderError, declared.error.DecoderError.TheVariants.RlpIncorrectListLen, Laws.{TakePossible}}
use Rattle.rlp_reading.specs.{Format.Framing.items, Views.View.{View, item_count, item_views}}
use Rattle.rlp_reading.specs.Form.{Fault, Faults, FieldsReading, Gives, all_taken, fault_of, incorrect_list_len, items_of, struct_reading, and_then, take_all}
use Rattle.rlp_reading.proofs.{Lemmas.Numbered.{item_count-told, counted_told}, ListLaws.items_told, StructLaws.{other_number, struct_given, this_number}}
use Rattle.rlp.specs.Left.{AreFaulty}

module _ {P : Type 0} (r : FieldsReading P) (v : View) where
  -- The struct has a fault, which is in the item at the place.
  pub record FailsAt (e : DecoderError) (i : ℕ) : Type 0 where
    pub fault : Faults (struct_reading r) v e
    pub place : slice_get ((struct_reading r).read v).path 0 ≡ Some i

  -- The struct has a fault, and no item of the list is at fault.
  pub record FailsAsList (e : Fault) : Type 0 where
    pub fault : ((struct_reading r).read v).result ≡ Err e
    pub place : slice_get ((struct_reading r).read v).path 0 ≡ None

  numbered : (n : ℕ) → item_count v ≡ Ok n → n ≡ length (item_views v)
  numbered n count = grind (arith, item_count-told, counted_told, length-map)

  -- the number of items is possible
  pub fault_at : (n : ℕ) (e : DecoderError) (left : ℕ) → item_count v ≡ Ok n → AreFaulty r (item_views v) left e → r.accepts n ≡ true → FailsAt e (n - 1 - left)
  fault_at n e left count faulty right = grind (arith, this_number, items_told, counted_told, numbered)

  -- the number of items is wrong
  pub count_refused : (n : ℕ) → item_count v ≡ Ok n → r.accepts n ≡ false → FailsAsList incorrect_list_len
  count_refused n count wrong = grind (arith, other_number, items_told, counted_told, numbered)

  -- the items of a list that has a number of items
  pub listed : (n : ℕ) → item_count v ≡ Ok n → items_of v ≡ Ok (item_views v)
  listed n count = items_told v (counted_told v n count)

  -- the items give the fields, and nothing is left
  pub fields_given : (vs rest : List View) (x : P) → TakePossible r → items_of v ≡ Ok vs → (r.read vs).result ≡ Ok (r.seen x, rest) → rest ≡ [] → Gives (struct_reading r) v x
  fields_given vs rest x law items is none = grind (arith, struct_given)

  -- a field has a fault
  pub field_faulty : (vs after : List View) (left : ℕ) (e : DecoderError) → vs ≡ item_views v → (r.read vs).result ≡ Err (after, fault_of e) → left ≡ length after
      → AreFaulty r (item_views v) left e
  field_faulty vs after left e items is many = grind arith

  not_all : (m : r.M) (rest : List View) (left : ℕ) → rest ≢ [] → left ≡ length rest - 1
      → (after : List View) × ((all_taken m rest).result ≡ Err (after, incorrect_list_len)) × (length after ≡ left)
  not_all m [] left some many = absurd (some refl)
  not_all m (w ∷ ws) left some many = (ws, refl, omega (arith, many))

  -- items are left after the fields
  pub items_over : (vs rest : List View) (left : ℕ) (m : r.M) → vs ≡ item_views v → (r.read vs).result ≡ Ok (m, rest) → rest ≢ [] → left ≡ length rest - 1
      → AreFaulty r (item_views v) left RlpIncorrectListLen
  items_over vs rest left m items is some many =
      let h = not_all m rest left some many in
      record {
        after = h.0;
        fault = ap (λ ws. (take_all r.read ws).result) (sym items) ∙ ap (λ x. and_then x (λ (t : r.M × List View). (all_taken t.0 t.1).result)) is ∙ h.1;
        many = h.2;
      }

pub ruleset struct_answers = (fields_given, field_faulty, items_over)

pub ruleset counted_faults = (fault_at, count_refused, listed)
