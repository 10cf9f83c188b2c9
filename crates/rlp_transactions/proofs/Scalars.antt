-- What views give as numbers of a signature.
use Rattle.std.proofs.{Common.{ℕ, ◌∙◌, ◌≡◌, Err, Ok, ap, codes, false, true}, lemmas.Bool.{cond-false, cond-true}}
use Rattle.rlp.specs.{Codec.number, Form.{and_then, custom}, Views.View.View}
use Rattle.rlp_records.specs.TestedForm.{passing}
use Rattle.rlp_transactions.specs.{NonZeroScalar.scalar, Secp256k1.is_scalar}

-- a number that a signature has
pub scalar_given : (v : View) (n : ℕ) → ((number 32).reading.read v).result ≡ Ok n → is_scalar n ≡ true → (scalar.reading.read v).result ≡ Ok n
scalar_given v n is told = ap (λ r. and_then r (passing (codes "not a scalar of a signature") is_scalar)) is ∙ cond-true (is_scalar n) _ _ told

-- a number that no signature has
pub no_scalar : (v : View) (n : ℕ) → ((number 32).reading.read v).result ≡ Ok n → is_scalar n ≡ false
    → (scalar.reading.read v).result ≡ Err (custom (codes "not a scalar of a signature"))
no_scalar v n is told = ap (λ r. and_then r (passing (codes "not a scalar of a signature") is_scalar)) is ∙ cond-false (is_scalar n) _ _ told

pub ruleset scalars_read = (scalar_given, no_scalar)
