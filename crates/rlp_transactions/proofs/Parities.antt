-- What `v` says in the signature of a transaction without a type, for bodies.
use Rattle.std.proofs.Common.{ℕ, ⊎_elim, ◌%◌, ◌*◌, ◌++◌, ◌+◌, ◌/◌, ◌<◌, ◌^◌, ◌∙◌, ◌∷◌, ◌≡◌, ◌≤◌, ◌⊎◌, Bool, List, None, Option, Some, [], ap, arith, drop, false, inl, inr, length, refl, subst, suc, sym, take, take-append-drop, true, zero}
use Rattle.std.proofs.{Math.Nat.{div-div-eq-div-mul, pow-suc, pow-succ'}, lemmas.Bool.Decides.nat_tests}
use Rattle.std.proofs.{lemmas.Int.Digits.{number_after_append, number_after_ge, number_more, number_push}, lemmas.Nat.div_below}
use Rattle.std.specs.{Int.{byte_at, bytes_high_first}, Int.Digits.{number_from_digits, number_from_digits_after}}
use Rattle.rlp.specs.{Uint.Uint, Values.Value.bit}
use Rattle.rlp_transactions.specs.{Eip155.{FitsChain, even_v, v_of}, TransactionParts.{IsNoV, SaysChain, Signs, number_of}, declared.eip155.Eip155.Eip155}
use Rattle.rlp_transactions.specs.{declared.legacy_transaction.LegacyTransaction.LegacyTransaction, declared.signed.Signed.Signed}
use Rattle.rlp_transactions.specs.{declared.transaction.Transaction.Transaction, declared.transaction.Transaction.TheVariants.Legacy}
use Rattle.rlp_transactions.specs.declared.unsigned_transaction.UnsignedTransaction.TheVariants as unsigned

-- ---- which numbers are a `v`

-- the number is a `v`: 27 or 28, or from 35 on that of a chain of 64 bits
abbrev pub IsV : ℕ → Type 0
IsV n = ((27 ≤ n) × (n ≤ 28)) ⊎ ((35 ≤ n) × (n < 36893488147419103267))

within : (chain : Option ℕ) (parity : Bool) → FitsChain chain → IsV (bit parity + even_v chain)
within None false fits = inl (omega arith, omega arith)
within None true fits = inl (omega arith, omega arith)
within (Some c) false fits = inr (omega arith, omega arith)
within (Some c) true fits = inr (omega arith, omega arith)

pub v_within : (x : Eip155) → FitsChain x.chain_id → IsV (v_of x)
v_within x fits = within x.chain_id x.y_parity fits

pub ruleset v_says = (nat_tests, v_within)

-- ---- the chain that `v` says

said : (n : ℕ) (chain : Option ℕ) (parity : Bool) → n ≡ bit parity + even_v chain → SaysChain n chain
said n None false is = (tt, λ c fits signed. ⊎_elim (λ even. omega (arith, is, even)) (λ odd. omega (arith, is, odd)) signed)
said n None true is = (tt, λ c fits signed. ⊎_elim (λ even. omega (arith, is, even)) (λ odd. omega (arith, is, odd)) signed)
said n (Some c) false is = (inl (omega (arith, is)), tt)
said n (Some c) true is = (inr (omega (arith, is)), tt)

pub chain_said : (n : ℕ) (x : Eip155) → n ≡ v_of x → SaysChain n x.chain_id
chain_said n x is = said n x.chain_id x.y_parity is

pub no_chain_said : (n : ℕ) → IsNoV n → SaysChain n None
no_chain_said n none = (
  tt,
  λ c fits signed.
      ⊎_elim
      (λ even. none (record { chain_id = Some c; y_parity = false }) fits (omega (arith, even)))
      (λ odd. none (record { chain_id = Some c; y_parity = true }) fits (omega (arith, odd)))
      signed,
)

pub ruleset chains = (chain_said)

-- ---- what is signed

-- a transaction without a type is signed for the chain that its `v` says
pub legacy_signed : (t : Transaction) (l : Signed LegacyTransaction (Uint 32)) (x : Eip155) → t ≡ Legacy l → number_of l.v ≡ v_of x
    → Signs t (unsigned.Legacy (record { payload = l.payload; chain_id = x.chain_id })) x.y_parity
legacy_signed t l x same is =
    subst (λ t. Signs t (unsigned.Legacy (record { payload = l.payload; chain_id = x.chain_id })) x.y_parity) (sym same) (x.chain_id, (refl, is))

-- ---- numbers as digits to the base 256

-- one more digit after digits of a large number makes the number larger than 128 bits
pub large : (ds : List ℕ) (i : ℕ) → i < length ds → 2 ^ 128 ≤ number_from_digits 256 (take i ds) * 256 → 2 ^ 128 ≤ number_from_digits 256 ds
large ds i more many =
    let first = number_from_digits 256 (take (i + 1) ds) in
    let step = number_more 256 ds i more in
    let whole : number_from_digits 256 ds ≡ number_from_digits_after 256 first (drop (i + 1) ds) =
    ap (number_from_digits 256) (sym (take-append-drop (i + 1) ds)) ∙ number_after_append 256 0 (take (i + 1) ds) (drop (i + 1) ds) in
    let above = number_after_ge 256 first (drop (i + 1) ds) (omega arith) in
    omega (arith, step, whole, above, many)

-- a byte of n is the one below it of n / 256
byte_above : (k n : ℕ) → byte_at (suc k) n ≡ byte_at k (n / 256)
byte_above zero n = refl
byte_above (suc k) n =
    ap (λ p. n / p % 256) (pow-succ' 256 (suc k)) ∙ ap (λ q. q % 256) (sym (div-div-eq-div-mul n 256 (256 ^ suc k)))

high_first_step : (k n : ℕ) → bytes_high_first (suc k) n ≡ bytes_high_first k (n / 256) ++ (n % 256) ∷ []
high_first_step zero n = refl
high_first_step (suc k) n = let below = high_first_step k n in let above = byte_above k n in cc

-- k bytes write the number whose bytes they are
pub number_high_first : (k n : ℕ) → n < 256 ^ k → number_from_digits 256 (bytes_high_first k n) ≡ n
number_high_first zero n small = omega (arith, small)
number_high_first (suc k) n small =
    let below : n / 256 < 256 ^ k = div_below n 256 (256 ^ k) (omega arith) (omega (arith, pow-suc 256 k, small)) in
    let rest = number_high_first k (n / 256) below in
    ap (number_from_digits 256) (high_first_step k n) ∙ number_push 256 (bytes_high_first k (n / 256)) (n % 256) ∙ omega (arith, rest)
