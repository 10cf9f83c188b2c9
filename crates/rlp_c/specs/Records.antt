-- The answers for transactions and headers.
use Rattle.std.specs.Prelude.{ℕ, ◌≡◌, ◌+◌, ◌&&◌, ◌==◌, if◌then◌else◌, nat_lt, true, false, ⊤, List, [], ◌∷◌, length, Option, Some, None, Result, Ok, Err}
use Rattle.rlp_reading.specs.{Format.Framing.{begins_as_list, items}, Form.{Fault, custom, is_too_short}}
use Rattle.rlp_records.specs.{Alone.unknown_type, Eip2718.typed_alone}
use Rattle.rlp_transactions.specs.Transaction.{transaction_types}
use Rattle.rlp_c.specs.{declared.item.RlpItem.RlpItem, declared.records.fields.Record.Record, Fields.numbered, Rows.ArePlaced, Status.fault_number}
use Rattle.rlp_c.specs.declared.records.fields.Record.TheVariants.{Legacy, AccessListPayload, FeeMarketPayload, BlobPayload, SetCodePayload, Header}

-- the most fields that a record has
abbrev pub most_fields : Record → ℕ
most_fields Legacy = 9
most_fields AccessListPayload = 11
most_fields FeeMarketPayload = 12
most_fields BlobPayload = 14
most_fields SetCodePayload = 13
most_fields Header = 23

-- The number of the field that has a fault. If the number of fields is wrong, it is the number of the first field that is missing, or of the first item after the
-- `most` fields that a record may have.
abbrev pub faulty_field : ℕ → ℕ → ℕ → ℕ → ℕ
faulty_field most items number status = if (number == 0) && (status == 5) then (if nat_lt items most then items + 1 else most + 1) else number

-- The answer for the list b, which begins at this place, by what the codec of the record gives for b: the places of the fields, or the fault and the number of the
-- field that has the fault.
abbrev pub IsRecordRead : Record → ℕ → List ℕ → List RlpItem → List RlpItem → ℕ → ℕ → Result ⊤ (ℕ × Fault) → Type 0
IsRecordRead r place b old new count status (Ok x) = ArePlaced place b (items b) old new count status
IsRecordRead r place b old new count status (Err e) =
    (status ≡ fault_number e.1) × (count ≡ faulty_field (most_fields r) (length (items b)) e.0 status)

-- the record behind the byte of a type
abbrev pub record_of_type : ℕ → Option Record
record_of_type k =
    if k == 1 then Some AccessListPayload
    else if k == 2 then Some FeeMarketPayload
    else if k == 3 then Some BlobPayload
    else if k == 4 then Some SetCodePayload
    else None

-- what bytes give as a standalone transaction, as in EIP-2718
abbrev pub transaction_result : List ℕ → Result ⊤ (ℕ × Fault)
transaction_result b = numbered (typed_alone transaction_types b)

-- The answer for a standalone transaction, by what its codec gives: a legacy list, with the type 0, or the byte of a type and a list. An unknown type has a status
-- of its own.
pub data IsTransactionRead (b : List ℕ) (old new : List RlpItem) (old_type type count status : ℕ) (a : Result ⊤ (ℕ × Fault)) : Type 0 where
  legacy : begins_as_list b ≡ true → type ≡ 0 → IsRecordRead Legacy 0 b old new count status a → IsTransactionRead b old new old_type type count status a
  typed : (k : ℕ) (p : List ℕ) (r : Record) → b ≡ k ∷ p → record_of_type k ≡ Some r → type ≡ k → IsRecordRead r 1 p old new count status a
      → IsTransactionRead b old new old_type type count status a
  unknown : (k : ℕ) (p : List ℕ) → b ≡ k ∷ p → begins_as_list b ≡ false → record_of_type k ≡ None → a ≡ Err (0, custom unknown_type) → type ≡ old_type
      → count ≡ 0 → status ≡ 16 → IsTransactionRead b old new old_type type count status a
  nothing : b ≡ [] → a ≡ Err (0, is_too_short) → type ≡ old_type → count ≡ 0 → status ≡ 2 → IsTransactionRead b old new old_type type count status a
