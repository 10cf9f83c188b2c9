-- A string that isn't read as a hash is read as a number.
use Rattle.std.proofs.Common.{◌≡◌, ◌≢◌, ◌≤◌, ◌==◌, inl, inr, ℕ, Bool, true, false, List, length, ltb, le-ltb, ltb-false, refl, ap, ◌∙◌, arith, ne_eqb, eq-eqb, Result, Ok, Err}
use Rattle.std.proofs.lemmas.Bool.Decides.{nat_tests}
use Rattle.rlp.specs.{Form.{Fault, and_then, fixed_of, is_too_big, is_too_short, map_value, number_of, string_of}, Views.View.View}
use Rattle.rlp_messages.specs.Eth.HashOrNumber.{hash_or_number_of}

hash_by : (r : Result (List ℕ) Fault) (d : List ℕ) → and_then r (fixed_of 32) ≡ Ok d → and_then r hash_or_number_of ≡ Ok (inl d)
hash_by (Ok s) d is = grind (arith, nat_tests)
hash_by (Err e) d is = absurd (let no : ⊥ = cc in no)

-- a string that isn't read as a hash is read as a number
number_found : (s : List ℕ) (f : Fault) → fixed_of 32 s ≡ Err f → hash_or_number_of s ≡ map_value inr (number_of 8 s)
number_found s f none = grind (arith, nat_tests)

number_by : (r : Result (List ℕ) Fault) (f : Fault) (n : ℕ) → and_then r (fixed_of 32) ≡ Err f → and_then r (number_of 8) ≡ Ok n
    → and_then r hash_or_number_of ≡ Ok (inr n)
number_by (Ok s) f n none is = number_found s f none ∙ ap (map_value inr) is
number_by (Err e) f n none is = absurd (let no : ⊥ = cc in no)

neither_by : (r : Result (List ℕ) Fault) (f e : Fault) → and_then r (fixed_of 32) ≡ Err f → and_then r (number_of 8) ≡ Err e
    → and_then r hash_or_number_of ≡ Err e
neither_by (Ok s) f e none is = number_found s f none ∙ ap (map_value inr) is
neither_by (Err g) f e none is = let same : g ≡ e = cc in ap (λ g. Err g) same

-- the string is a hash
pub found_hash : (v : View) (d : List ℕ) → and_then (string_of v) (fixed_of 32) ≡ Ok d → and_then (string_of v) hash_or_number_of ≡ Ok (inl d)
found_hash v d is = hash_by (string_of v) d is

-- the string is a number
pub found_number : (v : View) (f : Fault) (n : ℕ) → and_then (string_of v) (fixed_of 32) ≡ Err f → and_then (string_of v) (number_of 8) ≡ Ok n
    → and_then (string_of v) hash_or_number_of ≡ Ok (inr n)
found_number v f n none is = number_by (string_of v) f n none is

-- the string is neither
pub found_neither : (v : View) (f e : Fault) → and_then (string_of v) (fixed_of 32) ≡ Err f → and_then (string_of v) (number_of 8) ≡ Err e
    → and_then (string_of v) hash_or_number_of ≡ Err e
found_neither v f e none is = neither_by (string_of v) f e none is

pub ruleset hash_or_number_found = (found_hash, found_number, found_neither)
