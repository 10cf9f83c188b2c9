-- What is shown of withdrawals, accounts, logs and receipts, and of the fault of a record.
use Rattle.std.proofs.{Common.{◌∙◌, ap, inl, inr, sym}, lemmas.Bool.true≢false}
use Rattle.std.specs.Prelude.{ℕ, ◌==◌, ◌≡◌, ◌⊎◌, Bool, List, None, Option, Some, [], codes, drop, false, refl, true}
use Rattle.rlp.specs.{Form.Reading, Format.Encoding.encoding}
use Rattle.rlp_records.specs.OtherEnvelope.{other_type}
use Rattle.rlp_headers.specs.{Account.account, Log.log, Receipt.{receipt_fields, receipt_status}, TypedReceipt.{any_receipt, typed_receipt}, Withdrawal.{withdrawal}}
use Rattle.rlp_show.specs.Display.{a_bit, a_list, a_number, a_string, a_text, a_type, after_derived, an_object, and_type, bytes_as, content_bytes, content_number, either, end, field, field_if, in_order, last_type, no_type_entries, number_as, of_type, one, same, through}
use Rattle.rlp_show.specs.{DisplayLaws.bit_back, Value.{Display, Entries, Fields, both, by_form, bytes, content, entry}, declared.sink.BytesKind.TheVariants.{Any, Payload, Sparse}}
use Rattle.rlp_show.specs.declared.sink.NumberKind.TheVariants.{Place}

-- An object with the one member `error`: the place of a field, if the fault is in one; the name of an item; and the fault.
abbrev pub fault_display : Display (Option ℕ × (List ℕ × List ℕ))
fault_display =
    an_object (one (codes "error") (an_object (field_if (codes "field") (number_as Place) (same (codes "name") a_text (one (codes "fault") a_text)))))

-- the encoding of a value, by what contracts see of the value
unfoldable pub written : {A : Type 0} (r : Reading A) → r.M → List ℕ
written r m = encoding (r.item m)

-- the hash that names a record
abbrev pub hash_entries : List ℕ → Entries
hash_entries hash = entry (codes "hash") (codes "hash") (content (bytes Any hash))

-- what is shown of a withdrawal
unfoldable pub withdrawal_display : Display withdrawal.reading.M
withdrawal_display =
    an_object (same (codes "index") a_number (same (codes "validator_index") a_number (same (codes "address") a_string (same (codes "amount") a_number end))))

-- what is shown of an account
unfoldable pub account_display : Display account.reading.M
account_display =
    an_object (same (codes "nonce") a_number (same (codes "balance") a_number (field (codes "storage_root") (codes "storageHash") a_string (
    same (codes "code_hash") a_string end))))

-- what is shown of a log
abbrev pub log_display : Display log.reading.M
log_display = an_object (same (codes "address") a_string (same (codes "topics") (a_list a_string) (same (codes "data") a_string end)))

-- the status in fields
abbrev status_of : Entries → receipt_status.reading.M
status_of (by_form (entry name json (content c)) (entry other key (content d))) = (Some (content_number d == 1), content_bytes c)
status_of (entry name json (content c)) = (None, content_bytes c)
status_of es = (None, [])

-- The status of a receipt. In lines it is the bytes of the field. JSON has the status as a number, or before Byzantium the root of the trie of the state.
abbrev pub status_entries : receipt_status.reading.M → Entries
status_entries (Some success, d) =
    by_form (entry (codes "status_or_state_root") (codes "status") (content (bytes Any d))) (entry (codes "status_or_state_root") (codes "status") (a_bit.shown success))
status_entries (None, root) = entry (codes "status_or_state_root") (codes "root") (content (bytes Any root))

abbrev pub status_fields : Fields receipt_status.reading.M
status_fields = record {
  shown = status_entries;
  Told = receipt_status.reading.M;
  told = λ r. r;
  apart = λ r s is. sym (back r) ∙ ap status_of is ∙ back s;
}
  where
    back : (r : receipt_status.reading.M) → status_of (status_entries r) ≡ r
    back (Some success, d) = ap (λ b. (Some b, d)) (bit_back success)
    back (None, root) = refl

-- a receipt, without a type
abbrev pub receipt_display : Fields receipt_fields.reading.M
receipt_display =
    in_order status_fields (same (codes "cumulative_gas_used") a_number (same (codes "logs_bloom") (bytes_as Sparse) (
    same (codes "logs") (a_list log_display) end)))

-- receipts of the types that are known
abbrev pub receipt_by_type_display : Fields typed_receipt.reading.M
receipt_by_type_display = (
    and_type 0 (after_derived (λ r. no_type_entries) receipt_display) (λ r. refl) (
    and_type 1 (of_type 1 receipt_display) (λ r. refl) (
    and_type 2 (of_type 2 receipt_display) (λ r. refl) (
    and_type 3 (of_type 3 receipt_display) (λ r. refl) (last_type 4 (of_type 4 receipt_display) (λ r. refl)))))).fields

abbrev pub typed_receipt_display : Display typed_receipt.reading.M
typed_receipt_display = an_object receipt_by_type_display

-- a transaction or a receipt of an unknown type: the number of the type, and the payload
abbrev pub other_display : Fields (List ℕ)
other_display = through (λ d. (other_type d, drop 1 d)) (same (codes "type") a_type (one (codes "payload") (bytes_as Payload)))

-- whether the second of two fields is the last, as it is for an unknown type alone
abbrev pub ends_second : Entries → Bool
ends_second (both first (entry name json v)) = true
ends_second es = false

-- fields of types that are known, whose second is never the last, or of an unknown type
abbrev pub or_other : {M : Type 0} (f : Fields M) → ((m : M) → ends_second (f.shown m) ≡ false) → Fields (M ⊎ List ℕ)
or_other f goes_on = either f other_display (λ m d is. true≢false (sym (ap ends_second is) ∙ goes_on m))

-- receipts of all types: for an unknown type the number of the type and the payload
unfoldable pub any_receipt_display : Display any_receipt.reading.M
any_receipt_display =
    an_object (or_other receipt_by_type_display (
    elim [ inl r ↦ refl | inr (inl r) ↦ refl | inr (inr (inl r)) ↦ refl | inr (inr (inr (inl r))) ↦ refl | inr (inr (inr (inr r))) ↦ refl ]))
