-- Structs are read back, and strictly from nothing else.
use Rattle.std.proofs.Common.{Bool, Err, List, Ok, Result, [], ap, append-nil, arith, false, leb, length, refl, sym, true, ℕ, ◌-◌, ◌&&◌, ◌<◌, ◌^◌, ◌∙◌, ◌∷◌, ◌≡◌, ◌≤◌}
use Rattle.std.proofs.{lemmas.Bool.lt-leb, lemmas.List.length-map}
use Rattle.rlp_format.specs.Format.Encoding.{encoding, list_of}
use Rattle.rlp_reading.specs.Views.View.{View, strict_view_of}
use Rattle.rlp_reading.specs.Form.{Answer, Fault, FieldsForm, Path, Taken, and_then, go_on, here, if_possible, in_list, items_of, map_fault, map_value, read_struct, struct_of, all_taken, take_all, incorrect_list_len}
use Rattle.rlp_reading.specs.Laws.{AreLawful, AreSeen, GivesOnly, IsLawful, IsSeen, ReadsBack, TakesBack, TakesOnly, viewed, views_of}
use Rattle.rlp_reading.proofs.{ListLaws.{goes_on, items_held, items_only, items_sized}}

-- ---- for bodies of `decode`

-- the result of fields, if no view is left
abbrev ended : {M : Type 0} → Result (M × List View) (List View × Fault) → Result (M × List View) (List View × Fault)
ended {M} r = and_then r (λ (t : M × List View). (all_taken t.0 t.1).result)

-- the result of a struct, by the result of fields
abbrev outcome : {M : Type 0} → Result (M × List View) (List View × Fault) → Result M Fault
outcome {M} r = map_fault (λ (e : List View × Fault). e.1) (map_value (λ (m : M × List View). m.0) r)

module _ {M : Type 0} (accepts : ℕ → Bool) (read : List View → Taken M) (v : View) (vs : List View) where
  abbrev struct_answer : Answer M Fault
  struct_answer = go_on (here (items_of v)) (read_struct accepts read)

  -- the fields are all that the items give
  pub struct_given : (m : M) → items_of v ≡ Ok vs → accepts (length vs) ≡ true → (read vs).result ≡ Ok (m, []) → struct_answer.result ≡ Ok m
  struct_given m items right is = grind arith

  -- Why a struct isn't read: the fault, and the path.
  pub record StructFails (path : Path) (e : Fault) : Type 0 where
    pub fault : struct_answer.result ≡ Err e
    pub at : struct_answer.path ≡ path

  -- the number of items is wrong
  pub other_number : items_of v ≡ Ok vs → accepts (length vs) ≡ false → StructFails [] incorrect_list_len
  other_number items wrong = grind arith

  -- the number of items is possible, and the fields aren't what the items give
  pub this_number : (e : List View × Fault) → items_of v ≡ Ok vs → accepts (length vs) ≡ true → (take_all read vs).result ≡ Err e
      → StructFails ((length vs - 1 - length e.0) ∷ (take_all read vs).path) e.1
  this_number e items right fails = grind arith

-- a list of fewer than 2^64 items isn't as wide as this
pub too_wide : (w n : ℕ) (b : Bool) → 2 ^ 64 ≤ w → n < 2 ^ 64 → (leb w n && b) ≡ false
too_wide w n b wide few = ap (λ c. c && b) (lt-leb w n (omega (arith, wide, few)))

-- ---- a struct

module _ {P : Type 0} (f : FieldsForm P) where
  abbrev read_items : List View → Result f.reading.M Fault
  read_items vs = (read_struct f.reading.accepts f.reading.read vs).result

  pub struct_back : (is_strict : Bool) → TakesBack is_strict f → ReadsBack is_strict (struct_of f)
  struct_back is_strict law = record {
    back = λ b p fits fit holds.
        let vs : List View = views_of is_strict (f.items p) in
        let many : length (views_of is_strict (f.items p)) ≡ length (f.items p) = length-map (f.items p) (λ x. viewed is_strict (encoding x)) in
        ap (λ r. and_then r read_items) (items_held is_strict b (f.items p) fits holds)
        ∙ ap (λ (a : Answer f.reading.M Fault). a.result) (ap (λ right. if_possible right (in_list (length vs) (take_all f.reading.read vs))) (ap f.reading.accepts many ∙ law.counted p fit))
        ∙ ap (λ r. outcome (ended r)) (ap (λ vs. (f.reading.read vs).result) (sym (append-nil (views_of is_strict (f.items p))))
        ∙ law.back p [] (λ fixed. refl) fit (items_sized is_strict b (f.items p) fits holds));
  }

  all_of : (right : Bool) (n : ℕ) (r : Result (f.reading.M × List View) (List View × Fault)) (path : Path) (m : f.reading.M)
      → (if_possible right (in_list n (record { result = ended r; path = path }))).result ≡ Ok m → r ≡ Ok (m, [])
  all_of right n r path m is = grind arith

  pub struct_only : TakesOnly f → GivesOnly true (struct_of f)
  struct_only law = record {
    only = λ b p bytes fits is.
        let g = goes_on (items_of (strict_view_of b)) read_items (f.reading.seen p) is in
        let are = items_only b g.value bytes fits g.is in
        let all = take_all f.reading.read g.value in
        let is = all_of (f.reading.accepts (length g.value)) (length g.value) (f.reading.read g.value).result all.path (f.reading.seen p) g.then in
        let h = law.only p g.value [] are.parts is in
        (h.0, are.whole (f.items p) (h.1 ∙ append-nil (views_of true (f.items p))));
  }

  pub struct_told : AreSeen f → IsSeen (struct_of f)
  struct_told law = record { fits = law.fits; written = λ p. ap list_of (law.written p) }

  pub struct_lawful : AreLawful f → IsLawful (struct_of f)
  struct_lawful law = record { told = struct_told law.told; back = λ is_strict. struct_back is_strict (law.back is_strict); exact = struct_only law.exact }
