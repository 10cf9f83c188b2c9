-- Strings that are no status.
use Rattle.std.{proofs.{Common.{◌∙◌, ap, ne_eqb}, lemmas.Bool.cond-false}, specs.Prelude.{ℕ, ◌==◌, ◌∷◌, ◌≡◌, ◌≢◌, Err, List, Some, [], codes, length, refl, suc, zero}}
use Rattle.rlp.specs.Form.{custom, map_value}
use Rattle.rlp_headers.specs.{StatusKindLaws.is_root, StatusKinds.{outcome_of, status_kind}}

-- a string that isn't empty and isn't the byte 1 tells no outcome
no_outcome : (d : List ℕ) → d ≢ [] → d ≢ 1 ∷ [] → outcome_of d ≡ Err (custom (codes "unknown receipt status"))
no_outcome [] none one = absurd (none refl)
no_outcome (suc zero ∷ []) none one = absurd (one refl)
no_outcome d none one = refl

-- any other string is no status
pub no_status : (d : List ℕ) → d ≢ [] → d ≢ 1 ∷ [] → length d ≢ 32 → status_kind d ≡ Err (custom (codes "unknown receipt status"))
no_status d none one many = cond-false (length d == 32) _ _ (ne_eqb (length d) 32 many) ∙ ap (map_value Some) (no_outcome d none one)

pub ruleset statuses = (no_status, is_root)
