-- A string is a status if and only if it is written for one.
use Rattle.std.{proofs.{Common.{◌↔◌, arith, eq-eqb}, lemmas.Bool.cond-true, lemmas.Bool.Decides.nat_tests}, specs.Prelude.{ℕ, ◌==◌, ◌≡◌, List, None, Ok, length, refl}}
use Rattle.rlp_reading.proofs.StringLaws.{HaveKinds}
use Rattle.rlp_headers.specs.{StatusKinds.{IsStatus, status_bytes, status_kind, succeeded}, declared.receipt.ReceiptStatus.ReceiptStatus}
use Rattle.rlp_headers.specs.declared.receipt.ReceiptStatus.TheVariants.{Failure, StateRoot, Success}

-- 32 bytes are a root
pub is_root : (d : List ℕ) → length d ≡ 32 → status_kind d ≡ Ok None
is_root d is = cond-true (length d == 32) _ _ (eq-eqb _ _ is)

root_only : (d : List ℕ) → status_kind d ≡ Ok None → length d ≡ 32
root_only d is = grind (arith, nat_tests)

pub status_kinds : HaveKinds IsStatus status_bytes succeeded status_kind
status_kinds = record { of_kind = of_kind }
  where
    of_kind : (s : ReceiptStatus) → IsStatus s ↔ (status_kind (status_bytes s) ≡ Ok (succeeded s))
    of_kind Failure = (λ fit. refl, λ is. tt)
    of_kind Success = (λ fit. refl, λ is. tt)
    of_kind (StateRoot root) = (is_root root.0, root_only root.0)
