-- Proofs of one account or of one slot agree.
use Rattle.std.proofs.Common.{◌≡◌, ◌^◌, ◌<◌, ◌≤◌, ◌+◌, ◌∙◌, ◌⊎◌, ⊎_elim, inl, inr, ap, ℕ, zero, suc, List, [], ◌∷◌, length, Option, Some, None, option_map, Ok, refl, sym, arith, length-append}
use Rattle.std.proofs.lemmas.{Int.Digits.length-digits_of-le, List.Elements.{All-append, All-from_recursion, All-nil, All-take}}
use Rattle.std.specs.{Int.{to_le_bytes, w64}, Int.Digits.number_from_digits, Prelude.{IfSome, slice_index, ◌/◌}}
use Rattle.rlp.specs.{Format.Encoding.{AreBytes, IsSized, big_endian, encoding, join, string}, Values.Value.{FitsBytes, number_item}}
use Rattle.rlp_format.proofs.Lemmas.Digits.{big_endian_is, big_endian_same, pow-bytes}
use Rattle.rlp_reading.proofs.Lemmas.Items.{encoding_same}
use Rattle.rlp_records.specs.Keccak.{absorbed, bytes_of_lanes, keccak256, padded_message}
use Rattle.rlp_trie.specs.{HexPrefix.{AreNibbles, nibbles_of}, Listed.{HasCollision, known_of}}
use Rattle.rlp_trie.specs.{Lookup.HasValue, ProofWalk.{IsKnown, TellApart}}
use Rattle.rlp_trie.proofs.{Collisions.known_tell, NodeSizes.{list_length, string_length}, OneValue.one_value, PathLemmas.nibbles_are}
use Rattle.rlp_headers.specs.{Account.account, declared.account.Account.Account}
use Rattle.rlp_state.specs.State.{HasAccount, HasSlot, IsSlotValue}

-- ---- hashes are bytes

lane_bytes : (n : ℕ) → AreBytes (to_le_bytes w64 n)
lane_bytes n =
    All-from_recursion (λ byte. byte < 2 ^ 8) (to_le_bytes w64 n)
    (omega arith, (omega arith, (omega arith, (omega arith, (omega arith, (omega arith, (omega arith, (omega arith, tt))))))))

lanes_bytes : (a : List ℕ) (n : ℕ) → AreBytes (bytes_of_lanes a n)
unfolding bytes_of_lanes
lanes_bytes a zero = All-nil (λ byte. byte < 2 ^ 8)
lanes_bytes a (suc n) = All-append (λ byte. byte < 2 ^ 8) (bytes_of_lanes a n) (to_le_bytes w64 (slice_index a n)) (lanes_bytes a n) (lane_bytes (slice_index a n))

hash_bytes : (m : List ℕ) → AreBytes (keccak256 m)
unfolding keccak256
hash_bytes m =
    let s = absorbed (padded_message m) (length (padded_message m) / 136) in
    All-take (λ byte. byte < 2 ^ 8) 32 (bytes_of_lanes s 25) (lanes_bytes s 25)

path_are : (key : List ℕ) → AreNibbles (nibbles_of (keccak256 key))
path_are key = nibbles_are (keccak256 key) (hash_bytes key)

-- the trie has one value for a key
values_agree : (root key : List ℕ) (nodes others : List (List ℕ)) (value other : Option (List ℕ))
    → HasValue (IsKnown nodes) (string root) (nibbles_of (keccak256 key)) value → HasValue (IsKnown others) (string root) (nibbles_of (keccak256 key)) other
    → (value ≡ other) ⊎ HasCollision (known_of nodes) (known_of others)
values_agree root key nodes others value other has also =
    ⊎_elim
    (λ (apart : TellApart (IsKnown nodes) (IsKnown others)).
    inl (one_value nodes others apart (string root) (nibbles_of (keccak256 key)) (path_are key) value other has also))
    (λ (found : HasCollision (known_of nodes) (known_of others)). inr found) (known_tell nodes others)

-- ---- encodings are short

digits_length : (width n : ℕ) → FitsBytes width n → length (big_endian n) ≤ width
digits_length width n fit =
    let powers = pow-bytes width in rw (big_endian_is) (length-digits_of-le 256 width n (omega arith) (omega (arith, powers, fit)))

number_length : (width n : ℕ) → width < 2 ^ 8 → FitsBytes width n → length (encoding (number_item n)) ≤ width + 9
number_length width n narrow fit =
    let digits = digits_length width n fit in
    let most = string_length (big_endian n) (omega (arith, digits)) in omega (arith, digits, most)

account_sized : (a : Account) → account.Fits a → IsSized (account.item a)
account_sized a (nonce, (balance, (storage, (code, none)))) =
    let one = number_item a.nonce in
    let two = number_item (number_from_digits 256 a.balance.bytes) in
    let three = string a.storage_root.0 in
    let four = string a.code_hash.0 in
    let first = number_length 8 a.nonce (omega arith) nonce in
    let second = number_length 32 (number_from_digits 256 a.balance.bytes) (omega arith) balance in
    let third = string_length a.storage_root.0 (omega (arith, storage)) in
    let fourth = string_length a.code_hash.0 (omega (arith, code)) in
    let all : length (join (one ∷ two ∷ three ∷ four ∷ [])) ≤ 140 = (
    let last = length-append (encoding four) [] in
    let two_left = length-append (encoding three) (join (four ∷ [])) in
    let three_left = length-append (encoding two) (join (three ∷ four ∷ [])) in
    let whole = length-append (encoding one) (join (two ∷ three ∷ four ∷ [])) in
    omega (arith, first, second, third, fourth, storage, code, last, two_left, three_left, whole)
    ) in
    let most = list_length (one ∷ two ∷ three ∷ four ∷ []) (omega (arith, all)) in omega (arith, most, all)

-- ---- what is proved agrees

account_same : (one other : Option Account) → IfSome one account.Fits → IfSome other account.Fits
    → option_map (λ a. encoding (account.item a)) one ≡ option_map (λ a. encoding (account.item a)) other
    → option_map account.item one ≡ option_map account.item other
account_same None None fit also same = refl
account_same None (Some a) fit also same = absurd (let no : ⊥ = cc in no)
account_same (Some a) None fit also same = absurd (let no : ⊥ = cc in no)
account_same (Some a) (Some w) fit also same =
    let bytes : encoding (account.item a) ≡ encoding (account.item w) = cc in
    ap Some (encoding_same (account.item a) (account.item w) (account_sized a fit) (account_sized w also) bytes)

pub accounts_agree : (root address : List ℕ) (nodes others : List (List ℕ)) (one other : Option Account) → HasAccount root address nodes one
    → HasAccount root address others other → (option_map account.item one ≡ option_map account.item other) ⊎ HasCollision (known_of nodes) (known_of others)
accounts_agree root address nodes others one other has also =
    ⊎_elim (λ same. inl (account_same one other has.fits also.fits same)) (λ (found : HasCollision (known_of nodes) (known_of others)). inr found)
    (values_agree root address nodes others (option_map (λ a. encoding (account.item a)) one) (option_map (λ a. encoding (account.item a)) other) has.has also.has)

slot_same : (v w : Option (List ℕ)) (one other : ℕ) → IsSlotValue v (Ok one) → IsSlotValue w (Ok other) → v ≡ w → one ≡ other
slot_same None None one other is also same = is ∙ sym also
slot_same None (Some c) one other is also same = absurd (let no : ⊥ = cc in no)
slot_same (Some b) None one other is also same = absurd (let no : ⊥ = cc in no)
slot_same (Some b) (Some c) one other (fit, is) (fits, also) same =
    let bytes : encoding (number_item one) ≡ encoding (number_item other) = cc in
    let small = number_length 32 one (omega arith) fit in
    let little = number_length 32 other (omega arith) fits in
    let items = encoding_same (number_item one) (number_item other) (omega (arith, small)) (omega (arith, little)) bytes in
    big_endian_same one other (cc)

pub slots_agree : (root slot : List ℕ) (nodes others : List (List ℕ)) (one other : ℕ) → HasSlot root slot nodes one → HasSlot root slot others other
    → (one ≡ other) ⊎ HasCollision (known_of nodes) (known_of others)
slots_agree root slot nodes others one other has also =
    ⊎_elim (λ same. inl (slot_same has.value also.value one other has.is also.is same)) (λ (found : HasCollision (known_of nodes) (known_of others)). inr found)
    (values_agree root slot nodes others has.value also.value has.has also.has)
