-- Tests that keep nothing have the faults of the codecs.
use Rattle.std.proofs.Common.{◌≡◌, ℕ, ◌+◌, ◌<◌, ◌^◌, Bool, true, false, List, [], ◌∷◌, length, None, Some, Result, Ok, Err, refl, ap, arith}
use Rattle.std.specs.{Bool.⊤, List.slice_get}
use Rattle.rlp_reading.specs.{Format.Framing.{payload, strict_list_fault}, Views.View.{View, item_views, strict_view_of}, Form.{map_answer, map_taken, struct_reading}}
use Rattle.rlp_reading.specs.Form.{Answer, Fault, FieldsReading, Path, Taken, all_taken, go_on, if_possible, in_list}
use Rattle.rlp_reading.proofs.{Lemmas.Numbered.{length-item_views, length-split, counted_told, told_whole}, Lemmas.Views.payload_short}
use Rattle.rlp_c.specs.{Fields.{number_of, numbered}, Forgotten.forgotten}

-- f applied to the value leaves what an answer tells
pub mapped : {A B : Type 0} (f : A → B) (a : Answer A Fault) → numbered (map_answer f a) ≡ numbered a
mapped f a = grind arith

pub a_field : (p : Path) (i : ℕ) → slice_get p 0 ≡ Some i → number_of p ≡ i + 1
a_field [] i is = absurd (let no : ⊥ = cc in no)
a_field (j ∷ p) i is = let same : j ≡ i = cc in ap (λ i. i + 1) same

pub no_field : (p : Path) → slice_get p 0 ≡ None → number_of p ≡ 0
no_field [] is = refl
no_field (j ∷ p) is = absurd (let no : ⊥ = cc in no)

module _ {P : Type 0} (f : FieldsReading P) where
  abbrev told : View → Answer f.M Fault
  told = (struct_reading f).read

  abbrev untold : View → Answer ⊤ Fault
  untold = (struct_reading (forgotten {Q = ⊤} f)).read

  abbrev forget : f.M → ⊤
  forget x = tt

  -- what a list of n items gives, if this is what its items give
  abbrev whole : {M : Type 0} → ℕ → Bool → Taken M → Answer M Fault
  whole n accepted t = if_possible accepted (in_list n (go_on t (λ t. all_taken t.0 t.1)))

  all_forgotten : (n : ℕ) (accepted : Bool) (r : Result (f.M × List View) (List View × Fault)) (p : Path)
      → whole n accepted (map_taken forget (record { result = r; path = p })) ≡ map_answer forget (whole n accepted (record { result = r; path = p }))
  all_forgotten n true (Ok (x, [])) p = grind arith
  all_forgotten n true (Ok (x, v ∷ vs)) p = grind arith
  all_forgotten n true (Err e) p = grind arith
  all_forgotten n false (Ok (x, [])) p = grind arith
  all_forgotten n false (Ok (x, v ∷ vs)) p = grind arith
  all_forgotten n false (Err e) p = grind arith

  -- a struct that is forgotten has the answer of the struct, without the value
  pub struct_forgotten : (v : View) → untold v ≡ map_answer forget (told v)
  struct_forgotten v =
      let vs : List View = item_views v in
      grind (arith, all_forgotten (length vs) (f.accepts (length vs)) (f.read vs).result (f.read vs).path)

  -- bytes that are a record are one list
  pub listed : (b : List ℕ) (x : ⊤) → (untold (strict_view_of b)).result ≡ Ok x → strict_list_fault b ≡ None
  listed b x is = grind (arith, told_whole b, counted_told (strict_view_of b))

  place_within : (n i : ℕ) → n < 2 ^ 64 → (accepted : Bool) (r : Result (f.M × List View) (List View × Fault)) (p : Path)
      → slice_get (whole n accepted (record { result = r; path = p })).path 0 ≡ Some i → i + 1 < 2 ^ 64
  place_within n i short true (Ok (x, [])) p is = grind arith
  place_within n i short true (Ok (x, v ∷ vs)) p is = grind arith
  place_within n i short true (Err e) p is = grind arith
  place_within n i short false r p is = absurd (let no : ⊥ = cc in no)

  -- the number of a field fits
  pub place_fits : (b : List ℕ) (i : ℕ) → length b < 2 ^ 64 → slice_get (untold (strict_view_of b)).path 0 ≡ Some i → i + 1 < 2 ^ 64
  place_fits b i short is =
      let vs : List View = item_views (strict_view_of b) in
      let few : length vs < 2 ^ 64 = omega (arith, short, length-item_views (strict_view_of b), length-split (payload b), payload_short b) in
      grind (arith, place_within (length vs) i few (f.accepts (length vs)) (f.read vs).result (f.read vs).path)

pub ruleset placed = (a_field, no_field, struct_forgotten, listed, place_fits)
