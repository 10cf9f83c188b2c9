-- What strings are the statuses of receipts.
use Rattle.std.specs.Prelude.{ℕ, ⊤, ◌==◌, ◌∷◌, ◌≡◌, Bool, Err, List, None, Ok, Option, Result, Some, [], codes, false, if◌then◌else◌, length, suc, true, zero}
use Rattle.rlp.specs.Form.{Fault, custom, map_value}
use Rattle.rlp_headers.specs.{declared.receipt.ReceiptStatus.{ReceiptStatus}, declared.receipt.ReceiptStatus.TheVariants.{Failure, StateRoot, Success}}

-- EIP-658: "1 indicating success, 0 indicating failure", as a number, so 0 is the empty string. Before Byzantium the status is the 32 bytes of the root of the
-- state.
abbrev pub status_bytes : ReceiptStatus → List ℕ
status_bytes Failure = []
status_bytes Success = 1 ∷ []
status_bytes (StateRoot root) = root.0

-- a root has 32 bytes
abbrev pub IsStatus : ReceiptStatus → Type 0
IsStatus (StateRoot root) = length root.0 ≡ 32
IsStatus status = ⊤

-- whether the transaction succeeded, or `None` for a root, which doesn't say whether it did
abbrev pub succeeded : ReceiptStatus → Option Bool
succeeded Failure = Some false
succeeded Success = Some true
succeeded (StateRoot root) = None

-- whether the transaction succeeded, by a string that isn't a root
abbrev pub outcome_of : List ℕ → Result Bool Fault
outcome_of [] = Ok false
outcome_of (suc zero ∷ []) = Ok true
outcome_of d = Err (custom (codes "unknown receipt status"))

-- the kind of a status that a string is: a string of 32 bytes is a root
abbrev pub status_kind : List ℕ → Result (Option Bool) Fault
status_kind d = if length d == 32 then Ok None else map_value Some (outcome_of d)
