-- Where a value of a type, or a string of another, can't be read.
use Rattle.std.{specs.Prelude.{ℕ, ◌≡◌, ◌⊎◌, ◌++◌, Bool, List, IfSome, OnOk, Result, Ok, Err}, proofs.Common.{arith, inl}}
use Rattle.rlp_reading.specs.Form.{Answer, Fault, IsPlaced, Path, map_value, path_unless}
use Rattle.rlp_records.specs.OtherEnvelope.{string_or}

-- f applied to the value leaves the fault where it was
mapped : {A B : Type 0} (f : A → B) (r : Result A Fault) (q old new : Path) → IfSome (path_unless r q) (λ path. new ≡ old ++ path)
    → IfSome (path_unless (map_value f r) q) (λ path. new ≡ old ++ path)
mapped f (Ok x) q old new is = tt
mapped f (Err e) q old new is = is

-- a view that isn't a string of another type has the fault of the type
placed : {M : Type 0} (told : List ℕ → Bool) (a : Answer M Fault) (r : Result (List ℕ) Fault) (old new : Path) → IsPlaced a old new
    → IsPlaced (string_or told a r) old new
placed {M} told a (Ok d) old new is = grind (arith, mapped {B = M ⊎ List ℕ} inl a.result a.path old new is)
placed told a (Err e) old new is = mapped inl a.result a.path old new is

pub string_placed : {M T E : Type 0} (told : List ℕ → Bool) (a : Answer M Fault) (r : Result (List ℕ) Fault) (old new : Path) (done : Result T E)
    → OnOk done (IsPlaced a old new) → OnOk done (IsPlaced (string_or told a r) old new)
string_placed told a r old new (Ok x) is = placed told a r old new is
string_placed told a r old new (Err e) is = is
