-- A string is a recipient if and only if it is written for one, and a number of a signature is short.
use Rattle.std.specs.Prelude.{ℕ, ◌≡◌, ◌↔◌, Bool, true, false, List, [], ◌∷◌, length, Ok, Err}
use Rattle.std.proofs.{Common.{refl, ap, ◌∙◌, ltb, ltb-false, arith}, lemmas.Bool.{cond-true, cond-false}, lemmas.Bool.Decides.nat_tests}
use Rattle.rlp.specs.Values.Value.{FitsBytes}
use Rattle.rlp_reading.specs.Form.{fixed_of, is_too_big, is_too_short, map_value}
use Rattle.rlp_reading.proofs.StringLaws.{array_strings}
use Rattle.rlp_transactions.specs.{Secp256k1.is_scalar, StringKinds.{IsRecipient, account_of, is_account, recipient_bytes}}
use Rattle.rlp_transactions.specs.{declared.recipient.Recipient.Recipient, declared.recipient.Recipient.TheVariants.{Creation, Account}}

account_back : (d : List ℕ) → length d ≡ 20 → fixed_of 20 d ≡ Ok d → account_of d ≡ Ok true
account_back [] whole is = absurd (omega (arith, whole))
account_back (byte ∷ rest) whole is = ap (map_value (λ d. true)) is

fixed_by : (d : List ℕ) (few many : Bool) → ltb (length d) 20 ≡ few → ltb 20 (length d) ≡ many → map_value (λ d. true) (fixed_of 20 d) ≡ Ok true → length d ≡ 20
fixed_by d true many less more is =
    let r : fixed_of 20 d ≡ Err is_too_short = cond-true (ltb (length d) 20) _ _ less in absurd (let no : ⊥ = cc in no)
fixed_by d false true less more is =
    let r : fixed_of 20 d ≡ Err is_too_big = cond-false (ltb (length d) 20) _ _ less ∙ cond-true (ltb 20 (length d)) _ _ more in absurd (let no : ⊥ = cc in no)
fixed_by d false false less more is = omega (arith, ltb-false _ _ less, ltb-false _ _ more)

account_whole : (d : List ℕ) → account_of d ≡ Ok true → length d ≡ 20
account_whole [] is = absurd (let no : ⊥ = cc in no)
account_whole (byte ∷ rest) is = fixed_by (byte ∷ rest) (ltb (length (byte ∷ rest)) 20) (ltb 20 (length (byte ∷ rest))) refl refl is

-- a recipient fits if and only if its bytes tell whether it is an account
pub recipient_told : (r : Recipient) → IsRecipient r ↔ (account_of (recipient_bytes r) ≡ Ok (is_account r))
recipient_told Creation = (λ fit. refl, λ is. tt)
recipient_told (Account address) =
    (λ fit. account_back address.0 fit ((array_strings 20).back address.0 fit (omega (arith, fit))), account_whole address.0)

-- the numbers of signatures have at most 32 bytes
pub narrow : (n : ℕ) → is_scalar n ≡ true → FitsBytes 32 n
narrow n is = grind (arith, nat_tests, is)
