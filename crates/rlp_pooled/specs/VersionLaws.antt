-- A string is the version of a wrapper if and only if it is written for one.
use Rattle.std.specs.{Prelude.{ℕ, ◌≡◌, Bool, true, false, List, [], ◌∷◌, Ok, Err, codes}, Str.bytes_eq}
use Rattle.std.proofs.{lemmas.Bool.cond-false, lemmas.Slice.Eq.bytes_eq-Decides}
use Rattle.rlp_reading.specs.Form.{custom}
use Rattle.rlp_pooled.specs.Versions.{version_of}

pub version_by : (d : List ℕ) (same : Bool) → bytes_eq d (1 ∷ []) ≡ same → version_of d ≡ Ok tt → d ≡ 1 ∷ []
version_by d true same is = (bytes_eq-Decides d (1 ∷ [])).0 same
version_by d false same is =
    let r : version_of d ≡ Err (custom (codes "unknown wrapper version")) = cond-false (bytes_eq d (1 ∷ [])) _ _ same in absurd (let no : ⊥ = cc in no)
