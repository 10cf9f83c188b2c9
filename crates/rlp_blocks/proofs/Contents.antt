-- What a key signs for one purpose is not signed for another.
use Rattle.std.proofs.Common.{ℕ, ⊎_elim, ◌&&◌, ◌*◌, ◌++◌, ◌<◌, ◌^◌, ◌∙◌, ◌∷◌, ◌≡◌, ◌≢◌, ◌⊎◌, Bool, IsTrue, List, None, Option, Some, [], ap, arith, false, inl, inr, length, refl, sym, true}
use Rattle.std.proofs.{lemmas.Bool.Decides.nat_tests, lemmas.Slice.Eq.bytes_eq-Decides}
use Rattle.std.specs.{Cmp.Lexicographic.slice_cmp, Ordering.{is_lt, nat_cmp}, Str.bytes_eq, Vec.vec_items}
use Rattle.rlp_format.proofs.Lemmas.Encodings.{first_of_header, list_written, listed_from}
use Rattle.rlp_reading.proofs.{Lemmas.Items.{encoding_same}, GroupLaws.{groups_counted}}
use Rattle.rlp.specs.{Format.Encoding.{IsSized, Item, encoding, items_from, list_of, listed, string}, Values.Value.{all_items, items_if, number_item}}
use Rattle.rlp_records.specs.{Keccak.keccak256, OtherEnvelope.{IsOther, is_other_type, other_type}}
use Rattle.rlp_transactions.proofs.Signing.{one_meaning}
use Rattle.rlp_transactions.specs.{LegacyTransaction.{chain_fields, legacy_transaction_fields}, Signing.{Signable, a_transaction, an_authorization, signed_bytes}}
use Rattle.rlp_transactions.specs.declared.legacy_transaction.LegacyTransaction.{LegacyTransaction}
use Rattle.rlp_transactions.specs.declared.unsigned_transaction.UnsignedTransaction.TheVariants.{AccessList, Blob, FeeMarket, Legacy, SetCode}
use Rattle.rlp_node_record.specs.{NodeFields.{pair_fields, signed_item}, NodeRecord.{AreInOrder, IsNodeRecord}}
use Rattle.rlp_node_record.specs.{declared.node_fields.NodeFields.NodeFields, declared.node_fields.NodePair.NodePair}
use Rattle.rlp_blocks.specs.SignedContent.{AreCollision, FitsContent, MeanTheSame, SignedContent, content_bytes, of_account, of_message, of_node, of_other}

-- ---- lists begin with no byte below 0x80

begins_high : (xs : List Item) (k : ℕ) (rest : List ℕ) → IsSized (list_of xs) → k < 0x80 → encoding (list_of xs) ≢ k ∷ rest
begins_high xs k rest sized low same =
    let w = list_written (items_from xs) sized in
    let h = first_of_header 0xc0 _ w.is_base w.small in
    let first : h.0 ≡ k = let is = h.2 in let all = w.is in cc in
    omega (arith, first, h.3, low)

-- ---- the items of node records and of legacy transactions

-- no key comes before the empty one
none_before : (key : List ℕ) → is_lt (slice_cmp nat_cmp key []) ≡ false
none_before [] = refl
none_before (b ∷ key) = refl

not_rising : (a b c : Bool) → c ≡ false → (d : Bool) → IsTrue (a && (b && (c && d))) → ⊥
not_rising a b c is d rise = grind arith

-- the fourth key isn't empty
fourth_key : (p q r s : NodePair) → AreInOrder (p ∷ q ∷ r ∷ s ∷ []) → vec_items s.key ≢ []
unfolding AreInOrder
fourth_key p q r s rise empty =
    let key : NodePair → List ℕ = λ p. vec_items p.key in
    not_rising (is_lt (slice_cmp nat_cmp (key p) (key q))) (is_lt (slice_cmp nat_cmp (key q) (key r))) (is_lt (slice_cmp nat_cmp (key r) (key s)))
    (ap (λ k. is_lt (slice_cmp nat_cmp (key r) k)) empty ∙ none_before (key r)) true rise

-- the items of pairs, two each
two_each : (ps : List NodePair) → length (all_items pair_fields.items ps) ≡ length ps * 2
two_each ps = groups_counted 2 pair_fields.items (λ p. refl) ps

-- the items of a legacy transaction that is to be signed
abbrev legacy_items : LegacyTransaction → Option ℕ → List Item
legacy_items l chain = legacy_transaction_fields.items l ++ items_if chain_fields.items chain

-- the items that are signed of a node record
abbrev node_items : ℕ → List NodePair → List Item
node_items n ps = number_item n ∷ all_items pair_fields.items ps

-- They differ: those of a record are an odd number, and where they are nine, the last but one is a key, which isn't empty, as it is in EIP-155.
items_apart : (n : ℕ) (ps : List NodePair) (l : LegacyTransaction) (chain : Option ℕ) → AreInOrder ps → node_items n ps ≢ legacy_items l chain
items_apart n ps l None rise same = omega (arith, ap length same, two_each ps)
items_apart n [] l (Some c) rise same = omega (arith, ap length same)
items_apart n (p ∷ []) l (Some c) rise same = omega (arith, ap length same)
items_apart n (p ∷ q ∷ []) l (Some c) rise same = omega (arith, ap length same)
items_apart n (p ∷ q ∷ r ∷ []) l (Some c) rise same = omega (arith, ap length same)
items_apart n (p ∷ q ∷ r ∷ s ∷ t ∷ ps) l (Some c) rise same = omega (arith, ap length same)
items_apart n (p ∷ q ∷ r ∷ s ∷ []) l (Some c) rise same =
    let key : string (vec_items s.key) ≡ string [] = cc in fourth_key p q r s rise cc

lists_same : (xs ys : List Item) → list_of xs ≡ list_of ys → xs ≡ ys
lists_same xs ys same =
    let inside : items_from xs ≡ items_from ys = cc in
    sym (listed_from xs) ∙ ap listed inside ∙ listed_from ys

-- ---- each purpose apart from the others

-- the byte of another type is below 0x80
low : (k : ℕ) → IsTrue (is_other_type k) → k < 0x80
low k other = grind (arith, nat_tests)

not_known : (k n : ℕ) → k ≡ n → is_other_type n ≡ false → ¬ IsTrue (is_other_type k)
not_known k n same known other = let no : true ≡ false = sym other ∙ ap is_other_type same ∙ known in cc

node_apart : (f : NodeFields) (x : Signable) → IsNodeRecord f → length (signed_bytes x) < 2 ^ 64 → encoding (signed_item f) ≢ signed_bytes x
node_apart f x record_of short same = by x short same
  where
    items : List Item
    items = node_items f.sequence (vec_items f.pairs)

    high : (k : ℕ) (rest : List ℕ) → length (k ∷ rest) < 2 ^ 64 → k < 0x80 → encoding (list_of items) ≢ k ∷ rest
    high k rest short low same = begins_high items k rest (omega (arith, short, ap length same)) low same

    by : (x : Signable) → length (signed_bytes x) < 2 ^ 64 → encoding (signed_item f) ≢ signed_bytes x
    by (a_transaction (Legacy u)) short same =
        let xs = legacy_items u.payload u.chain_id in
        items_apart f.sequence (vec_items f.pairs) u.payload u.chain_id record_of.rising
        (lists_same items xs (encoding_same (list_of items) (list_of xs) (omega (arith, short, ap length same)) short same))
    by (a_transaction (AccessList t)) short same = high 1 _ short (omega arith) same
    by (a_transaction (FeeMarket t)) short same = high 2 _ short (omega arith) same
    by (a_transaction (Blob t)) short same = high 3 _ short (omega arith) same
    by (a_transaction (SetCode t)) short same = high 4 _ short (omega arith) same
    by (an_authorization a) short same = high 5 _ short (omega arith) same

heads : (k n : ℕ) (xs ys : List ℕ) → k ∷ xs ≡ n ∷ ys → k ≡ n
heads k n xs ys same = cc

message_apart : (m : List ℕ) (x : Signable) → length (signed_bytes x) < 2 ^ 64 → 0x19 ∷ m ≢ signed_bytes x
message_apart m (a_transaction (Legacy u)) short same = begins_high (legacy_items u.payload u.chain_id) 0x19 m short (omega arith) (sym same)
message_apart m (a_transaction (AccessList t)) short same = omega (arith, heads 0x19 1 m _ same)
message_apart m (a_transaction (FeeMarket t)) short same = omega (arith, heads 0x19 2 m _ same)
message_apart m (a_transaction (Blob t)) short same = omega (arith, heads 0x19 3 m _ same)
message_apart m (a_transaction (SetCode t)) short same = omega (arith, heads 0x19 4 m _ same)
message_apart m (an_authorization a) short same = omega (arith, heads 0x19 5 m _ same)

other_apart : (d : List ℕ) (x : Signable) → IsOther d → length (signed_bytes x) < 2 ^ 64 → d ≢ signed_bytes x
other_apart [] x other short same = let no : ⊥ = cc in no
other_apart (k ∷ rest) (a_transaction (Legacy u)) other short same =
    begins_high (legacy_items u.payload u.chain_id) k rest short (low k other) (sym same)
other_apart (k ∷ rest) (a_transaction (AccessList t)) other short same = not_known k 1 (let is : k ≡ 1 = cc in is) refl other
other_apart (k ∷ rest) (a_transaction (FeeMarket t)) other short same = not_known k 2 (let is : k ≡ 2 = cc in is) refl other
other_apart (k ∷ rest) (a_transaction (Blob t)) other short same = not_known k 3 (let is : k ≡ 3 = cc in is) refl other
other_apart (k ∷ rest) (a_transaction (SetCode t)) other short same = not_known k 4 (let is : k ≡ 4 = cc in is) refl other
other_apart (k ∷ rest) (an_authorization a) other short same = not_known k 5 (let is : k ≡ 5 = cc in is) refl other

other_no_node : (d : List ℕ) (f : NodeFields) → IsOther d → length d < 2 ^ 64 → d ≢ encoding (signed_item f)
other_no_node [] f other short same = let no : ⊥ = cc in no
other_no_node (k ∷ rest) f other short same =
    begins_high (node_items f.sequence (vec_items f.pairs)) k rest (omega (arith, short, ap length same)) (low k other) (sym same)

other_no_message : (d m : List ℕ) → IsOther d → other_type d ≢ 0x19 → d ≢ 0x19 ∷ m
other_no_message [] m other apart same = let no : ⊥ = cc in no
other_no_message (k ∷ rest) m other apart same = apart (let is : k ≡ 0x19 = cc in is)

node_no_message : (f : NodeFields) (m : List ℕ) → IsSized (signed_item f) → encoding (signed_item f) ≢ 0x19 ∷ m
node_no_message f m sized same = begins_high (node_items f.sequence (vec_items f.pairs)) 0x19 m sized (omega arith) same

-- what is signed for two meanings has different bytes
pub one_content : (one other : SignedContent) → FitsContent one → FitsContent other → length (content_bytes one) < 2 ^ 64
    → content_bytes one ≡ content_bytes other → MeanTheSame one other
one_content (of_account x) (of_account y) fit fits short same = one_meaning x y fit fits short same
one_content (of_account x) (of_other e) fit fits short same = other_apart e x fits.0 short (sym same)
one_content (of_account x) (of_node g) fit fits short same = node_apart g x fits short (sym same)
one_content (of_account x) (of_message n) fit fits short same = message_apart n x short (sym same)
one_content (of_other d) (of_account y) fit fits short same = other_apart d y fit.0 (omega (arith, short, ap length same)) same
one_content (of_other d) (of_other e) fit fits short same = same
one_content (of_other d) (of_node g) fit fits short same = other_no_node d g fit.0 short same
one_content (of_other d) (of_message n) fit fits short same = other_no_message d n fit.0 fit.1 same
one_content (of_node f) (of_account y) fit fits short same = node_apart f y fit (omega (arith, short, ap length same)) same
one_content (of_node f) (of_other e) fit fits short same = other_no_node e f fits.0 (omega (arith, short, ap length same)) (sym same)
one_content (of_node f) (of_node g) fit fits short same = encoding_same (signed_item f) (signed_item g) short (omega (arith, short, ap length same)) same
one_content (of_node f) (of_message n) fit fits short same = node_no_message f n short same
one_content (of_message m) (of_account y) fit fits short same = message_apart m y (omega (arith, short, ap length same)) same
one_content (of_message m) (of_other e) fit fits short same = other_no_message e m fits.0 fits.1 (sym same)
one_content (of_message m) (of_node g) fit fits short same = node_no_message g m (omega (arith, short, ap length same)) (sym same)
one_content (of_message m) (of_message n) fit fits short same = cc

-- ---- by hashes

-- two byte strings are equal or not
pub bytes_same_or_not : (a b : List ℕ) → (a ≡ b) ⊎ (a ≢ b)
bytes_same_or_not a b = decided (bytes_eq a b) refl
  where
    decided : (t : Bool) → bytes_eq a b ≡ t → (a ≡ b) ⊎ (a ≢ b)
    decided true is = inl ((bytes_eq-Decides a b).0 is)
    decided false is = inr (λ same. let no : true ≡ false = sym ((bytes_eq-Decides a b).1 same) ∙ is in cc)

-- what has one hash means the same, or is two byte strings with one hash
pub one_hash : (one other : SignedContent) → FitsContent one → FitsContent other → length (content_bytes one) < 2 ^ 64
    → keccak256 (content_bytes one) ≡ keccak256 (content_bytes other) → MeanTheSame one other ⊎ AreCollision (content_bytes one) (content_bytes other)
one_hash one other fit fits short hash =
    ⊎_elim (λ same. inl (one_content one other fit fits short same)) (λ apart. inr (record { differ = apart; hash = hash }))
    (bytes_same_or_not (content_bytes one) (content_bytes other))
