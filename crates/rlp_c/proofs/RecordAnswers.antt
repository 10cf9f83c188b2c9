-- The answers for transactions and headers.
use Rattle.std.proofs.Common.{◌≡◌, ◌↔◌, inl, inr, ℕ, ◌-◌, ◌==◌, ◌<◌, ◌≤◌, ◌^◌, Bool, true, false, if◌then◌else◌, nat_le, List, [], ◌∷◌, length, map, take, drop}
use Rattle.std.proofs.Common.{slice_index_or, refl, sym, ap, ◌∙◌, subst, arith, append-nil, IsOk, Option, Some, None, Result, Ok, Err}
use Rattle.std.proofs.{lemmas.Bool.{cond-true, cond-false}, lemmas.Bool.Decides.nat_tests, lemmas.List.take_all}
use Rattle.std.specs.Bool.{⊤}
use Rattle.rlp_format.specs.Format.Encoding.{Item, list_of, IsSized, encoding}
use Rattle.rlp_format.proofs.Lemmas.Encodings.{listed_from}
use Rattle.rlp_reading.specs.{Format.Framing.{begins_as_list, items}, Views.View.{View, strict_view_of}, Form.{Answer, Fault, custom, here, map_answer, map_fault}}
use Rattle.rlp_reading.proofs.{Lemmas.Views.list_shape, Lemmas.WholeLists.{strict_items, whole_sized}}
use Rattle.rlp.specs.Codec.{truth_value}
use Rattle.rlp_records.specs.{Alone.{bytes_alone, unknown_type}, Eip2718.{type_of, typed_alone}}
use Rattle.rlp_transactions.specs.{declared.transaction.Transaction.{Transaction}, AccessListTransaction.{access_list_transaction_fields, signed_access_list_transaction}}
use Rattle.rlp_transactions.specs.{BlobTransaction.{blob_transaction_fields, signed_blob_transaction}, Transaction.{transaction, transaction_types}}
use Rattle.rlp_transactions.specs.{FeeMarketTransaction.{fee_market_transaction_fields, signed_fee_market_transaction}, LegacyTransaction.{signed_legacy_transaction_fields}}
use Rattle.rlp_transactions.specs.{SetCodeTransaction.{set_code_transaction_fields, signed_set_code_transaction}, Signed.signed_fields}
use Rattle.rlp_transactions.specs.declared.transaction.Transaction.TheVariants.{AccessList as of_access_list, Blob as of_blob, FeeMarket as of_fee_market}
use Rattle.rlp_transactions.specs.declared.transaction.Transaction.TheVariants.{Legacy as of_legacy, SetCode as of_set_code}
use Rattle.rlp_records.proofs.TypedSums.{typed_strings}
use Rattle.rlp_headers.specs.declared.header.Header.{Header as BlockHeader}
use Rattle.rlp_headers.specs.Header.{header, header_fields}
use Rattle.rlp_c.specs.{declared.item.RlpItem.RlpItem, declared.records.fields.Record.Record}
use Rattle.rlp_c.specs.declared.records.fields.Record.TheVariants.{Header, Legacy, AccessListPayload, FeeMarketPayload, BlobPayload, SetCodePayload}
use Rattle.rlp_c.specs.{Fields.{number_of, numbered, record_result, without_value}, Places.{IsFound, fields_in, fields_of, place_of}}
use Rattle.rlp_c.specs.{Records.{IsRecordRead, IsTransactionRead, legacy, record_of_type, transaction_result, typed, unknown}, Rows.ArePlaced}
use Rattle.rlp_c.proofs.{Texts.number_within, Testing.mapped}

-- the first byte, and the others
pub first_and_rest : (b : List ℕ) → 1 ≤ length b → b ≡ slice_index_or b 0 0 ∷ take (length b - 1) (drop 1 b)
first_and_rest [] some = absurd (omega (arith, some))
first_and_rest (first ∷ rest) some =
    let whole : length rest ≤ length (first ∷ rest) - 1 = omega arith in
    ap (λ s. first ∷ s) (sym (take_all (length (first ∷ rest) - 1) rest whole))

-- ---- what bytes give as a transaction

legacy_is : (b : List ℕ) → begins_as_list b ≡ true → transaction_result b ≡ record_result Legacy (strict_view_of b)
legacy_is b kind = ap numbered (cond-true (begins_as_list b) _ _ kind) ∙ mapped inl _

known_low : (k : ℕ) (r : Record) → record_of_type k ≡ Some r → nat_le 0xc0 k ≡ false
known_low k r known = grind (arith, nat_tests)

-- what the list behind the byte of a type gives
abbrev of_type : Option Record → View → Result ⊤ (ℕ × Fault)
of_type (Some r) v = record_result r v
of_type None v = Err (0, custom unknown_type)

first_type : {M N : Type 0} (test : Bool) (r : Record) (o : Option Record) (v : View) (x : Answer M Fault) (y : Answer N Fault) → numbered x ≡ record_result r v
    → numbered y ≡ of_type o v → numbered (if test then map_answer inl x else map_answer inr y) ≡ of_type (if test then Some r else o) v
first_type true r o v x y first others = mapped inl x ∙ first
first_type false r o v x y first others = mapped inr y ∙ others

last_type : (test : Bool) (v : View)
    → numbered (if test then signed_set_code_transaction.reading.read v else here (Err (custom unknown_type))) ≡ of_type (if test then Some SetCodePayload else None) v
last_type true v = refl
last_type false v = refl

typed_is : (k : ℕ) (p : List ℕ) → begins_as_list (k ∷ p) ≡ false → transaction_result (k ∷ p) ≡ of_type (record_of_type k) (strict_view_of p)
typed_is k p low =
    let v = strict_view_of p in
    ap numbered (cond-false (begins_as_list (k ∷ p)) _ _ low) ∙ mapped inr (transaction_types.numbered.cases.read k v)
    ∙ first_type (k == 1) AccessListPayload _ v (signed_access_list_transaction.reading.read v) _ refl
    (first_type (k == 2) FeeMarketPayload _ v (signed_fee_market_transaction.reading.read v) _ refl
    (first_type (k == 3) BlobPayload _ v (signed_blob_transaction.reading.read v) _ refl (last_type (k == 4) v)))

module _ (b : List ℕ) (old new : List RlpItem) (old_type type count status : ℕ) where
  abbrev Answered : Type 0
  Answered = IsTransactionRead b old new old_type type count status (transaction_result b)

  pub legacy_answer : begins_as_list b ≡ true → type ≡ 0 → IsRecordRead Legacy 0 b old new count status (record_result Legacy (strict_view_of b)) → Answered
  legacy_answer kind is read = legacy kind is (subst (IsRecordRead Legacy 0 b old new count status) (sym (legacy_is b kind)) read)

  module _ (k : ℕ) (p : List ℕ) (whole : b ≡ k ∷ p) where
    pub typed_answer : (r : Record) → record_of_type k ≡ Some r → type ≡ k → IsRecordRead r 1 p old new count status (record_result r (strict_view_of p))
        → Answered
    typed_answer r known is read = typed k p r whole known is
        (subst (IsRecordRead r 1 p old new count status) (sym (ap transaction_result whole ∙ typed_is k p (known_low k r known) ∙ ap (λ o. of_type o (strict_view_of p)) known)) read)

    pub unknown_answer : begins_as_list b ≡ false → record_of_type k ≡ None → type ≡ old_type → count ≡ 0 → status ≡ 16 → Answered
    unknown_answer low none same number done = unknown k p whole low none
        (ap transaction_result whole ∙ typed_is k p (ap begins_as_list (sym whole) ∙ low) ∙ ap (λ o. of_type o (strict_view_of p)) none) same number done

-- ---- found exactly where the codec reads

pub transaction_exact : (b : List ℕ) (old new : List RlpItem) (old_type type count status : ℕ) (a : Result ⊤ (ℕ × Fault))
    → IsTransactionRead b old new old_type type count status a → IsFound status ↔ IsOk a
transaction_exact b old new old_type type count status a read = grind (arith, number_within)

-- ---- what the codecs write

numbered_value : {M : Type 0} (a : Answer M Fault) (x : M) → a.result ≡ Ok x → numbered a ≡ Ok tt
numbered_value a x is = ap (λ r. map_fault (λ e. (number_of a.path, e)) (without_value r)) is

module _ (xs : List Item) (short : length (encoding (list_of xs)) < 2 ^ 64) where
  sized : IsSized (list_of xs)
  sized = whole_sized (list_of xs) (encoding (list_of xs)) short refl

  -- the items of a list's encoding
  fields_are : items (encoding (list_of xs)) ≡ fields_in (list_of xs)
  fields_are = strict_items xs (encoding (list_of xs)) sized refl ∙ ap (map encoding) (sym (listed_from xs))

  begins : begins_as_list (encoding (list_of xs)) ≡ true
  begins = (list_shape xs (encoding (list_of xs)) sized ([], sym (append-nil (encoding (list_of xs))))).0

module _ (old new : List RlpItem) (count status : ℕ) where
  abbrev Placed : ℕ → Item → Type 0
  Placed place x = ArePlaced place (encoding x) (fields_in x) old new count status

  pub header_written : (h : BlockHeader) (b : List ℕ) → length b < 2 ^ 64 → header.Fits h → b ≡ encoding (header.item h)
      → IsRecordRead Header 0 b old new count status (numbered (header.reading.read (strict_view_of b))) → Placed 0 (header.item h)
  header_written h b short fit is read =
      let fine = numbered_value (header.reading.read (strict_view_of b)) (header.reading.seen h) ((header.reads_strictly.back true).back b h short fit is) in
      let fields = fields_are (header_fields.items h) (subst (λ d. length d < 2 ^ 64) is short) in
      let found : ArePlaced 0 b (items b) old new count status = subst (IsRecordRead Header 0 b old new count status) fine read in
      subst (λ fs. ArePlaced 0 (encoding (header.item h)) fs old new count status) fields (subst (λ d. ArePlaced 0 d (items d) old new count status) is found)

  module _ (old_type type : ℕ) where
    abbrev Reads : List ℕ → Result ⊤ (ℕ × Fault) → Type 0
    Reads b a = IsTransactionRead b old new old_type type count status a

    -- the answers for a list, and for the byte of a type and a list
    list_read : (xs : List Item) → length (encoding (list_of xs)) < 2 ^ 64 → Reads (encoding (list_of xs)) (Ok tt) → (type ≡ 0) × Placed 0 (list_of xs)
    list_read xs short read = grind (arith, nat_tests, fields_are xs short, begins xs short)

    typed_read : (k : ℕ) (xs : List Item) → k < 0xc0 → length (encoding (list_of xs)) < 2 ^ 64 → Reads (k ∷ encoding (list_of xs)) (Ok tt)
        → (type ≡ k) × Placed 1 (list_of xs)
    typed_read k xs low short read = grind (arith, nat_tests, fields_are xs short)

    written_by : (t : Transaction) → length (bytes_alone (transaction.item t)) < 2 ^ 64 → Reads (bytes_alone (transaction.item t)) (Ok tt)
        → (type ≡ type_of transaction_types t) × Placed (place_of t) (fields_of t)
    written_by (of_legacy t) short read = list_read (signed_legacy_transaction_fields.items t) short read
    written_by (of_access_list t) short read = typed_read 1 ((signed_fields access_list_transaction_fields refl truth_value).items t) (omega arith) (omega (arith, short)) read
    written_by (of_fee_market t) short read = typed_read 2 ((signed_fields fee_market_transaction_fields refl truth_value).items t) (omega arith) (omega (arith, short)) read
    written_by (of_blob t) short read = typed_read 3 ((signed_fields blob_transaction_fields refl truth_value).items t) (omega arith) (omega (arith, short)) read
    written_by (of_set_code t) short read = typed_read 4 ((signed_fields set_code_transaction_fields refl truth_value).items t) (omega arith) (omega (arith, short)) read

    pub transaction_written : (t : Transaction) (b : List ℕ) → length b < 2 ^ 64 → transaction.Fits t → b ≡ bytes_alone (transaction.item t)
        → Reads b (transaction_result b) → (type ≡ type_of transaction_types t) × Placed (place_of t) (fields_of t)
    transaction_written t b short fit is read =
        let few : length (bytes_alone (transaction.item t)) < 2 ^ 64 = subst (λ d. length d < 2 ^ 64) is short in
        let fine = numbered_value (typed_alone transaction_types b) (transaction.reading.seen t) (ap (λ d. (typed_alone transaction_types d).result) is ∙ (typed_strings transaction_types).back t fit few) in
        written_by t few (subst (λ d. Reads d (Ok tt)) is (subst (Reads b) fine read))
