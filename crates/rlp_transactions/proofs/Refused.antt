-- The bytes of a signed transaction aren't read as a transaction before it is signed.
use Rattle.std.proofs.{Common.{◌≡◌, ◌≢◌, ◌++◌, ◌∙◌, ◌<◌, ◌^◌, ℕ, Bool, true, false, List, [], ◌∷◌, length, Result, Ok, Err, inl, inr, refl, sym, ap, arith}, lemmas.{Bool.Decides.nat_tests, Bool.cond-true, List.length-map}}
use Rattle.std.specs.Int.Digits.{number_from_digits}
use Rattle.rlp_format.specs.Format.Encoding.{IsSized, Item, big_endian, encoding, list_of, string}
use Rattle.rlp.specs.{Codec.{Fields, group, optional_group, truth_value}, Uint.Uint}
use Rattle.rlp_reading.specs.Form.{Answer, Fault, FieldsReading, Taken, and_then, byte_array, custom, fixed_of, here, incorrect_list_len, is_too_big, map_value, number, seen_fault, string_of, struct_reading, take_all, take_both, take_if, take_item}
use Rattle.rlp_reading.specs.{Format.Framing.begins_as_list, Laws.{viewed, views_of}, Views.View.{View, strict_view_of}}
use Rattle.rlp_reading.proofs.{FieldLaws.{all_first, views_append}, Lemmas.StringsHeld.held_only, ListLaws.{items_held, items_sized}, StructLaws.{other_number, this_number}}
use Rattle.rlp_records.specs.{Alone.{bytes_alone, unknown_type}, Eip2718.typed_alone, OtherEnvelope.IsOther, declared.known_or_other.KnownOrOther.KnownOrOther}
use Rattle.rlp_records.specs.declared.known_or_other.KnownOrOther.TheVariants.{Known, Other}
use Rattle.rlp_records.proofs.Alone.{list_alone_begins}
use Rattle.rlp_transactions.proofs.Signing.{some_digit}
use Rattle.rlp_transactions.specs.{AccessListTransaction.access_list_transaction_fields, BlobTransaction.blob_transaction_fields, FeeMarketTransaction.fee_market_transaction_fields}
use Rattle.rlp_transactions.specs.LegacyTransaction.{chain_fields, legacy_transaction_fields, signed_legacy_transaction, unsigned_legacy_transaction}
use Rattle.rlp_transactions.specs.{NonZeroScalar.scalar_value, SetCodeTransaction.set_code_transaction_fields, Signed.signed_fields, Transaction.{any_transaction, transaction}, UnsignedTransaction.{unsigned_transaction, unsigned_types}}
use Rattle.rlp_transactions.specs.{declared.legacy_transaction.LegacyTransaction.LegacyTransaction, declared.legacy_transaction.UnsignedLegacyTransaction.UnsignedLegacyTransaction}
use Rattle.rlp_transactions.specs.{declared.signed.Signed.Signed, declared.transaction.Transaction.Transaction}
use Rattle.rlp_transactions.specs.declared.transaction.Transaction.TheVariants.{AccessList, Blob, FeeMarket, Legacy, SetCode}

-- ---- a list with another number of items

-- a list with another number of items isn't read as these fields
wrong_number : {P : Type 0} (f : FieldsReading P) (xs : List Item) → length (encoding (list_of xs)) < 2 ^ 64 → f.accepts (length xs) ≡ false
    → ((struct_reading f).read (strict_view_of (encoding (list_of xs)))).result ≡ Err incorrect_list_len
wrong_number f xs short wrong =
    (other_number f.accepts f.read (strict_view_of (encoding (list_of xs))) (views_of true xs) (items_held true (encoding (list_of xs)) xs short refl)
    (ap f.accepts (length-map xs (λ x. viewed true (encoding x))) ∙ wrong)).fault

-- ---- a string in the place of an empty string

too_many : (r : Result (List ℕ) Fault) (d : List ℕ) → r ≡ Ok d → d ≢ [] → and_then r (fixed_of 0) ≡ Err is_too_big
too_many (Ok []) d is some = absurd (some (let same : [] ≡ d = cc in sym same))
too_many (Ok (byte ∷ more)) d is some = grind (arith, nat_tests)
too_many (Err e) d is some = absurd (let no : ⊥ = cc in no)

-- a string of some bytes isn't read as an array of no bytes
some_bytes : (d : List ℕ) → IsSized (string d) → d ≢ [] → ((byte_array 0).reading.read (viewed true (encoding (string d)))).result ≡ Err is_too_big
some_bytes d short some = too_many (string_of (viewed true (encoding (string d)))) d (ap seen_fault (held_only (viewed true (encoding (string d))) d short refl)) some

-- ---- fields of which one has a fault

module _ {M N : Type 0} (read : List View → Taken M) (more : List View → Taken N) (vs : List View) where
  first_fails : (e : List View × Fault) → (read vs).result ≡ Err e → (take_both read more vs).result ≡ Err e
  first_fails e fails = grind arith

  second_fails : (x : M) (left : List View) (e : List View × Fault) → (read vs).result ≡ Ok (x, left) → (more left).result ≡ Err e
      → (take_both read more vs).result ≡ Err e
  second_fails x left e taken fails = grind arith

all_fail : {M : Type 0} (read : List View → Taken M) (vs : List View) (e : List View × Fault) → (read vs).result ≡ Err e → (take_all read vs).result ≡ Err e
all_fail read vs e fails = grind arith

-- the second of these items has a fault
second_item : {A B C : Type 0} (first : View → Answer A Fault) (second : View → Answer B Fault) (more : List View → Taken C) (v w : View) (vs : List View) (e : Fault)
    → (second w).result ≡ Err e
    → (f : List View × Fault) × ((take_both (take_item first) (take_both (take_item second) more) (v ∷ w ∷ vs)).result ≡ Err f)
second_item {A} first second more v w vs e fails = by (first v).result refl
  where
    by : (r : Result A Fault) → (first v).result ≡ r
        → (f : List View × Fault) × ((take_both (take_item first) (take_both (take_item second) more) (v ∷ w ∷ vs)).result ≡ Err f)
    by (Ok x) is = ((vs, e), grind arith)
    by (Err f) is = ((w ∷ vs, f), grind arith)

-- ---- transactions

-- what is signed without a type: six fields, or nine
abbrev unsigned_fields : Fields UnsignedLegacyTransaction
unsigned_fields =
    group (λ (u : UnsignedLegacyTransaction). u.payload) legacy_transaction_fields refl (
    optional_group (λ (u : UnsignedLegacyTransaction). u.chain_id) chain_fields refl)

-- the nine items of a signed transaction without a type end with a number that isn't 0
legacy_unread : (l : Signed LegacyTransaction (Uint 32)) → signed_legacy_transaction.Fits l → IsSized (signed_legacy_transaction.item l)
    → (e : Fault) × ((unsigned_legacy_transaction.reading.read (strict_view_of (encoding (signed_legacy_transaction.item l)))).result ≡ Err e)
legacy_unread l fit short =
    let xs : List Item = legacy_transaction_fields.items l.payload in
    let ys : List Item = string (big_endian (number_from_digits 256 l.v.bytes)) ∷ string (big_endian (scalar_value l.r)) ∷ string (big_endian (scalar_value l.s)) ∷ [] in
    let b : List ℕ = encoding (signed_legacy_transaction.item l) in
    let sized = all_first IsSized xs ys (items_sized true b (xs ++ ys) short refl) in
    let first = ap (λ vs. (legacy_transaction_fields.reading.read vs).result) (views_append true xs ys)
    ∙ (legacy_transaction_fields.laws.back true).back l.payload (views_of true ys) (λ no. absurd (let never : ⊥ = cc in never)) fit.0 sized.0 in
    let chain = second_item (number 8).reading.read (byte_array 0).reading.read (take_both (take_item (byte_array 0).reading.read) (λ vs. here (Ok (tt, vs))))
    (viewed true (encoding (string (big_endian (number_from_digits 256 l.v.bytes))))) (viewed true (encoding (string (big_endian (scalar_value l.r)))))
    (viewed true (encoding (string (big_endian (scalar_value l.s)))) ∷ []) is_too_big (some_bytes (big_endian (scalar_value l.r)) sized.1.1.0 (some_digit l.r)) in
    let fields = all_fail unsigned_fields.reading.read (views_of true (xs ++ ys)) chain.0
    (second_fails legacy_transaction_fields.reading.read (take_if chain_fields.reading.read) (views_of true (xs ++ ys))
    (legacy_transaction_fields.reading.seen l.payload) (views_of true ys) chain.0 first (ap (map_value _) chain.1)) in (
      chain.0.1,
      (this_number unsigned_fields.reading.accepts unsigned_fields.reading.read (strict_view_of b) (views_of true (xs ++ ys)) chain.0
          (items_held true b (xs ++ ys) short refl) refl fields).fault,
    )

-- a transaction of a known type
known_unread : (t : Transaction) → transaction.Fits t → length (bytes_alone (transaction.item t)) < 2 ^ 64
    → (e : Fault) × ((typed_alone unsigned_types (bytes_alone (transaction.item t))).result ≡ Err e)
known_unread (Legacy l) fit short =
    let faulty = legacy_unread l fit short in (
      faulty.0,
      ap (λ (a : Answer unsigned_transaction.reading.M Fault). a.result) (cond-true (begins_as_list (encoding (signed_legacy_transaction.item l))) _ _ (list_alone_begins (signed_legacy_transaction.item l) refl short))
          ∙ ap (map_value inl) faulty.1,
    )
known_unread (AccessList t) fit short = (
  incorrect_list_len,
  ap (λ r. map_value inr (map_value inl r)) (wrong_number access_list_transaction_fields.reading
      ((signed_fields access_list_transaction_fields refl truth_value).items t) (omega (arith, short)) refl),
)
known_unread (FeeMarket t) fit short = (
  incorrect_list_len,
  ap (λ r. map_value inr (map_value inr (map_value inl r))) (wrong_number fee_market_transaction_fields.reading
      ((signed_fields fee_market_transaction_fields refl truth_value).items t) (omega (arith, short)) refl),
)
known_unread (Blob t) fit short = (
  incorrect_list_len,
  ap (λ r. map_value inr (map_value inr (map_value inr (map_value inl r)))) (wrong_number blob_transaction_fields.reading
      ((signed_fields blob_transaction_fields refl truth_value).items t) (omega (arith, short)) refl),
)
known_unread (SetCode t) fit short = (
  incorrect_list_len,
  ap (λ r. map_value inr (map_value inr (map_value inr (map_value inr r)))) (wrong_number set_code_transaction_fields.reading
      ((signed_fields set_code_transaction_fields refl truth_value).items t) (omega (arith, short)) refl),
)

-- a transaction of another type
other_unread : (d : List ℕ) → IsOther d → (typed_alone unsigned_types d).result ≡ Err (custom unknown_type)
other_unread [] other = absurd (let no : ⊥ = cc in no)
other_unread (k ∷ payload) other = grind (arith, nat_tests)

-- no signed transaction is read as a transaction before it is signed
pub unread : (t : KnownOrOther Transaction) → any_transaction.Fits t → length (bytes_alone (any_transaction.item t)) < 2 ^ 64
    → (e : Fault) × ((typed_alone unsigned_types (bytes_alone (any_transaction.item t))).result ≡ Err e)
unread (Known t) fit short = known_unread t fit short
unread (Other d) fit short = (custom unknown_type, other_unread d fit)
