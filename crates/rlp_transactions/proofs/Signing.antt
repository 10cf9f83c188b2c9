-- What a key signs: the same bytes have one meaning, and they aren't those of a signed transaction.
use Rattle.std.proofs.Common.{ℕ, ◌++◌, ◌<◌, ◌^◌, ◌∙◌, ◌∷◌, ◌≡◌, ◌≢◌, Err, List, None, Option, Some, [], ap, arith, false, length, refl, sym, true}
use Rattle.std.specs.{Int.Digits.number_from_digits, Prelude.nat_le}
use Rattle.rlp_format.proofs.Lemmas.Digits.{big_endian_value}
use Rattle.rlp_reading.proofs.Lemmas.Items.{encoding_same}
use Rattle.rlp.specs.{Codec.{plain, struct_of}, Format.Encoding.{Item, Items, big_endian, encoding, item_and, list, list_of, listed, no_items, string}}
use Rattle.rlp.specs.{Format.Framing.begins_as_list, Uint.Uint, Values.Value.items_if}
use Rattle.rlp_reading.specs.Form.{custom}
use Rattle.rlp_records.proofs.{AfterByte.after_strings, Alone.list_alone_begins, Bytes.bytes_tell, TypedSums.typed_strings}
use Rattle.rlp_records.specs.{Alone.{bytes_alone, unknown_type}, Eip2718.typed_alone}
use Rattle.rlp_transactions.specs.{LegacyTransaction.{chain_fields, legacy_transaction_fields, signed_legacy_transaction}, NonZeroScalar.scalar_value}
use Rattle.rlp_transactions.specs.{Secp256k1.is_scalar, SetCodeTransaction.authorization_fields, declared.signed.Signed.Signed, declared.transaction.Transaction.Transaction}
use Rattle.rlp_transactions.specs.{Signing.{FitsSigning, HaveOneMeaning, Signable, a_transaction, an_authorization, signed_bytes}, Transaction.transaction}
use Rattle.rlp_transactions.specs.{UnsignedTransaction.{unsigned_transaction, unsigned_types}, declared.legacy_transaction.LegacyTransaction.LegacyTransaction}
use Rattle.rlp_transactions.specs.{declared.scalar.NonZeroScalar.NonZeroScalar, declared.set_code_transaction.Authorization.Authorization}
use Rattle.rlp_transactions.specs.declared.transaction.Transaction.TheVariants.{AccessList, Blob, FeeMarket, Legacy, SetCode}
use Rattle.rlp_transactions.specs.declared.unsigned_transaction.UnsignedTransaction.{UnsignedTransaction}
use Rattle.rlp_transactions.specs.declared.unsigned_transaction.UnsignedTransaction.TheVariants as unsigned

same_string : (d e : List ℕ) → string d ≡ string e → d ≡ e
same_string d e same = cc

-- bytes that begin with the byte of an authorization are no transaction's
no_type : (payload : List ℕ) → (typed_alone unsigned_types (5 ∷ payload)).result ≡ Err (custom unknown_type)
no_type payload = refl

-- no transaction has the bytes of an authorization
transaction_apart : (t : UnsignedTransaction) (a : Authorization) → unsigned_transaction.Fits t → length (signed_bytes (a_transaction t)) < 2 ^ 64
    → ¬ (signed_bytes (a_transaction t) ≡ signed_bytes (an_authorization a))
transaction_apart t a fit short same =
    let given = sym ((typed_strings unsigned_types).back t fit short) ∙ ap (λ d. (typed_alone unsigned_types d).result) same
    ∙ no_type (encoding (list_of (authorization_fields.items a))) in
    let no : ⊥ = cc in no

-- the same bytes have one meaning
pub one_meaning : (one other : Signable) → FitsSigning one → FitsSigning other → length (signed_bytes one) < 2 ^ 64
    → signed_bytes one ≡ signed_bytes other → HaveOneMeaning one other
one_meaning (a_transaction t) (a_transaction u) fit other short same = bytes_tell _ _ _ _ _ (typed_strings unsigned_types) t u fit other short same
one_meaning (a_transaction t) (an_authorization b) fit other short same = absurd (transaction_apart t b fit short same)
one_meaning (an_authorization a) (a_transaction u) fit other short same = absurd (transaction_apart u a other (omega (arith, short, ap length same)) (sym same))
one_meaning (an_authorization a) (an_authorization b) fit other short same =
    let c = struct_of authorization_fields in
    bytes_tell _ _ _ _ _ (after_strings 5 [] (plain c) c.reads_strictly) a b fit other short same

-- ---- signed transactions

-- the number of items in a list
abbrev count : Item → ℕ
count (string d) = 0
count (list xs) = length (listed xs)

-- the last of these items
abbrev last_of : Items → Item
last_of no_items = string []
last_of (item_and x no_items) = x
last_of (item_and x (item_and y more)) = last_of (item_and y more)

abbrev last_in : Item → Item
last_in (string d) = string d
last_in (list xs) = last_of xs

-- a number of a signature isn't zero
pub some_digit : (x : NonZeroScalar) → big_endian (scalar_value x) ≢ []
some_digit x none =
    let zero : scalar_value x ≡ 0 = sym (big_endian_value (scalar_value x)) ∙ ap (number_from_digits 256) none in
    let both : true ≡ false = sym x.in_range ∙ ap is_scalar zero in
    let no : ⊥ = cc in no

-- what is signed without a type has six items, or ends with an empty string
legacy_apart : (l : Signed LegacyTransaction (Uint 32)) (p : LegacyTransaction) (chain : Option ℕ)
    → signed_legacy_transaction.item l ≢ list_of (legacy_transaction_fields.items p ++ items_if chain_fields.items chain)
legacy_apart l p None same = let n : 9 ≡ 6 = ap count same in omega (arith, n)
legacy_apart l p (Some c) same =
    let ends : string (big_endian (scalar_value l.s)) ≡ string [] = ap last_in same in some_digit l.s (same_string _ _ ends)

-- after the byte of a type, the same bytes are those of the same item
after_same : (tag : ℕ) (x y : Item) → length (tag ∷ encoding x) < 2 ^ 64 → tag ∷ encoding x ≡ tag ∷ encoding y → x ≡ y
after_same tag x y short same =
    let rest : encoding x ≡ encoding y = cc in
    encoding_same x y (omega (arith, short)) (omega (arith, short, ap length rest)) rest

-- a list doesn't begin with the byte of a type
list_apart : (xs : Items) (tag : ℕ) (d : List ℕ) → nat_le 0xc0 tag ≡ false → length (encoding (list xs)) < 2 ^ 64 → encoding (list xs) ≢ tag ∷ d
list_apart xs tag d low short same =
    let both : true ≡ false = sym (list_alone_begins (list xs) refl short) ∙ ap begins_as_list same ∙ low in let no : ⊥ = cc in no

pub signed_apart : (t : Transaction) (x : Signable) → length (bytes_alone (transaction.item t)) < 2 ^ 64 → bytes_alone (transaction.item t) ≢ signed_bytes x
signed_apart (Legacy l) (a_transaction (unsigned.Legacy u)) short same =
    legacy_apart l u.payload u.chain_id (encoding_same _ _ short (omega (arith, short, ap length same)) same)
signed_apart (Legacy l) (a_transaction (unsigned.AccessList u)) short same = list_apart _ 1 _ refl short same
signed_apart (Legacy l) (a_transaction (unsigned.FeeMarket u)) short same = list_apart _ 2 _ refl short same
signed_apart (Legacy l) (a_transaction (unsigned.Blob u)) short same = list_apart _ 3 _ refl short same
signed_apart (Legacy l) (a_transaction (unsigned.SetCode u)) short same = list_apart _ 4 _ refl short same
signed_apart (Legacy l) (an_authorization a) short same = list_apart _ 5 _ refl short same
signed_apart (AccessList t) (a_transaction (unsigned.Legacy u)) short same = list_apart _ 1 _ refl (omega (arith, short, ap length same)) (sym same)
signed_apart (FeeMarket t) (a_transaction (unsigned.Legacy u)) short same = list_apart _ 2 _ refl (omega (arith, short, ap length same)) (sym same)
signed_apart (Blob t) (a_transaction (unsigned.Legacy u)) short same = list_apart _ 3 _ refl (omega (arith, short, ap length same)) (sym same)
signed_apart (SetCode t) (a_transaction (unsigned.Legacy u)) short same = list_apart _ 4 _ refl (omega (arith, short, ap length same)) (sym same)
signed_apart (AccessList t) (a_transaction (unsigned.AccessList u)) short same = let n : 11 ≡ 8 = ap count (after_same 1 _ _ short same) in omega (arith, n)
signed_apart (FeeMarket t) (a_transaction (unsigned.FeeMarket u)) short same = let n : 12 ≡ 9 = ap count (after_same 2 _ _ short same) in omega (arith, n)
signed_apart (Blob t) (a_transaction (unsigned.Blob u)) short same = let n : 14 ≡ 11 = ap count (after_same 3 _ _ short same) in omega (arith, n)
signed_apart (SetCode t) (a_transaction (unsigned.SetCode u)) short same = let n : 13 ≡ 10 = ap count (after_same 4 _ _ short same) in omega (arith, n)
signed_apart _ _ short same = let no : ⊥ = cc in no
