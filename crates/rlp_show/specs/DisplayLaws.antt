-- Values, and fields, that are shown alike are alike in what is told of them, if their parts are.
use Rattle.std.specs.Prelude.{◌==◌, ◌⊎◌, ◌∷◌, ℕ, Bool, List, None, Option, Some, [], false, map, option_map, true}
use Rattle.std.proofs.Common.{◌∙◌, ◌≡◌, ap, inl, inr, refl, sym}
use Rattle.rlp.specs.{Sums.sum_map, Values.Value.bit}
use Rattle.rlp_show.specs.Value.{Content, Display, Entries, Fields, Value, array, both, by_form, content, entries_if, entry, object, on_either, told_both, values_of}

pub content_same : {c d : Content} → content c ≡ content d → c ≡ d
content_same is = cc

-- if `back` reads back what `make` makes, `make` is injective
pub back_apart : {M : Type 0} (make : M → Content) (back : Content → M) → ((m : M) → back (make m) ≡ m) → (m n : M) → make m ≡ make n → m ≡ n
back_apart make back is m n same = sym (is m) ∙ ap back same ∙ is n

pub bit_back : (b : Bool) → (bit b == 1) ≡ b
bit_back true = refl
bit_back false = refl

module _ {M : Type 0} (d : Display M) where
  items_apart : (ms ns : List M) → values_of d.shown ms ≡ values_of d.shown ns → map d.told ms ≡ map d.told ns
  items_apart [] [] is = refl
  items_apart (m ∷ ms) (n ∷ ns) is = let first = d.apart m n cc in let others = items_apart ms ns cc in cc
  items_apart _ _ is = absurd cc

  pub list_apart : (ms ns : List M) → array (values_of d.shown ms) ≡ array (values_of d.shown ns) → map d.told ms ≡ map d.told ns
  list_apart ms ns is = items_apart ms ns cc

pub object_same : {a b : Entries} → object a ≡ object b → a ≡ b
object_same is = cc

pub field_same : {name other json key : List ℕ} {v w : Value} → entry name json v ≡ entry other key w → v ≡ w
field_same is = cc

pub if_apart : {M : Type 0} (f : Fields M) (o u : Option M) → entries_if f.shown o ≡ entries_if f.shown u → option_map f.told o ≡ option_map f.told u
if_apart f None None is = refl
if_apart f (Some m) (Some n) is = ap Some (f.apart m n cc)
if_apart f _ _ is = absurd cc

module _ {M N : Type 0} (f : Fields M) (g : Fields N) where
  pub both_apart : (m n : M × N) → both (f.shown m.0) (g.shown m.1) ≡ both (f.shown n.0) (g.shown n.1) → told_both f g m ≡ told_both f g n
  both_apart m n is = let first = f.apart m.0 n.0 cc in let others = g.apart m.1 n.1 cc in cc

  pub forms_apart : (m n : M × N) → by_form (f.shown m.0) (g.shown m.1) ≡ by_form (f.shown n.0) (g.shown n.1) → told_both f g m ≡ told_both f g n
  forms_apart m n is = let lines = f.apart m.0 n.0 cc in let json = g.apart m.1 n.1 cc in cc

  pub either_apart : ((m : M) (n : N) → f.shown m ≡ g.shown n → ⊥) → (s t : M ⊎ N) → on_either f g s ≡ on_either f g t
      → sum_map f.told g.told s ≡ sum_map f.told g.told t
  either_apart differ (inl m) (inl n) same = ap inl (f.apart m n same)
  either_apart differ (inl m) (inr n) same = absurd (differ m n same)
  either_apart differ (inr m) (inl n) same = absurd (differ n m (sym same))
  either_apart differ (inr m) (inr n) same = ap inr (g.apart m n same)
