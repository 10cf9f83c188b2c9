-- How long and how deep nodes are.
use Rattle.std.proofs.Common.{◌≡◌, ◌^◌, ◌<◌, ◌≤◌, ◌+◌, ◌*◌, ap, ℕ, zero, suc, Bool, true, false, if◌then◌else◌, List, [], ◌∷◌, ◌++◌, length, refl, arith, length-append, ⊎_elim}
use Rattle.std.proofs.lemmas.{Bool.Decides.nat_tests}
use Rattle.std.proofs.lemmas.List.{length-take-le}
use Rattle.std.specs.{Int.{to_le_bytes, w64}, Prelude.{◌/◌, nat_lt, slice_index}}
use Rattle.rlp_format.specs.Format.Encoding.{Item, Items, encoding, item_and, item_depth, items_depth, join, join_items, list, list_of, no_items, string, written_header}
use Rattle.rlp_format.proofs.Lemmas.{Encodings.{encoding_list}, Headers.shape}
use Rattle.rlp_records.specs.Keccak.{absorbed, bytes_of_lanes, keccak256, padded_message}
use Rattle.rlp_trie.specs.{HexPrefix.{bytes_of, hex_prefix}, Ordered.{in_turn, reference}}

-- a header has at most nine bytes, and at least one
pub header_length : (base n : ℕ) → n < 2 ^ 64 → (length (written_header base n) ≤ 9) × (0 < length (written_header base n))
header_length base n small =
    let s = shape base n small in
    rw (s.is) (
    ⊎_elim
    (λ (few, first, more). (omega (arith, ap length more), omega arith))
    (λ (many, first, more, some, most). (omega (arith, most), omega arith))
    s.parts)

pub string_length : (d : List ℕ) → length d < 2 ^ 64 → length (encoding (string d)) ≤ length d + 9
unfolding encoding
string_length d small = grind (arith, header_length 0x80 (length d) small, length-append (written_header 0x80 (length d)) d)

pub list_length : (xs : List Item) → length (join xs) < 2 ^ 64 → length (encoding (list_of xs)) ≤ length (join xs) + 9
list_length xs small = rw (encoding_list xs) (omega (arith, header_length 0xc0 (length (join xs)) small, length-append (written_header 0xc0 (length (join xs))) (join xs)))

lanes_length : (a : List ℕ) (n : ℕ) → length (bytes_of_lanes a n) ≡ 8 * n
unfolding bytes_of_lanes
lanes_length a zero = refl
lanes_length a (suc n) =
    let rest = lanes_length a n in
    let lane : length (to_le_bytes w64 (slice_index a n)) ≡ 8 = refl in
    omega (arith, rest, lane, length-append (bytes_of_lanes a n) (to_le_bytes w64 (slice_index a n)))

pub hash_length : (m : List ℕ) → length (keccak256 m) ≡ 32
unfolding keccak256
hash_length m =
    let s = absorbed (padded_message m) (length (padded_message m) / 136) in
    length-take-le 32 (bytes_of_lanes s 25) (omega (arith, lanes_length s 25))

-- the hash of a node, and a node that is kept, have at most 41 bytes (33 in truth)
pub reference_length : (x : Item) → length (encoding (reference x)) ≤ 41
reference_length x = by (nat_lt (length (encoding x)) 32) refl
  where
    is : length (keccak256 (encoding x)) ≡ 32
    is = hash_length (encoding x)

    small : length (encoding (string (keccak256 (encoding x)))) ≤ 41
    small = let most = string_length (keccak256 (encoding x)) (omega (arith, is)) in omega (arith, is)

    by : (t : Bool) → nat_lt (length (encoding x)) 32 ≡ t → length (encoding (if t then x else string (keccak256 (encoding x)))) ≤ 41
    by true short = grind (arith, nat_tests)
    by false short = small

-- an item nests less deep than its encoding is long
mutual
  unfolding encoding

  pub depth_length : (x : Item) → length (encoding x) < 2 ^ 64 → item_depth x ≤ length (encoding x)
  depth_length (string d) small = omega arith
  depth_length (list xs) small =
      let lengths = length-append (written_header 0xc0 (length (join_items xs))) (join_items xs) in
      let inner : items_depth xs ≤ length (join_items xs) = depths_length xs (omega (arith, lengths)) in
      let some = header_length 0xc0 (length (join_items xs)) (omega (arith, lengths)) in
      omega (arith, lengths, inner, some)

  depths_length : (xs : Items) → length (join_items xs) < 2 ^ 64 → items_depth xs ≤ length (join_items xs)
  depths_length no_items small = omega arith
  depths_length (item_and x xs) small =
      let lengths = length-append (encoding x) (join_items xs) in
      let one = depth_length x (omega (arith, lengths)) in
      let more = depths_length xs (omega (arith, lengths)) in
      omega (arith, lengths, one, more)

bytes_of_length : (x : List ℕ) → length (bytes_of x) ≤ length x
bytes_of_length [] = omega arith
bytes_of_length (a ∷ []) = omega arith
bytes_of_length (a ∷ b ∷ x) = let rest = bytes_of_length x in omega (arith, rest)

pub hex_prefix_length : (leaf : Bool) (x : List ℕ) → length (hex_prefix leaf x) ≤ length x + 1
hex_prefix_length leaf [] = grind (arith, nat_tests)
hex_prefix_length leaf (a ∷ x) = grind (arith, nat_tests, bytes_of_length (a ∷ x), bytes_of_length x)

-- the length of items whose encodings are short, before others
pub join_length : (f : ℕ → Item) (k n most : ℕ) (others : List Item) → ((j : ℕ) → length (encoding (f j)) ≤ most)
    → length (join (in_turn f k n ++ others)) ≤ most * n + length (join others)
join_length f k zero most others few = omega arith
join_length f k (suc n) most others few =
    let rest = join_length f (suc k) n most others few in
    omega (arith, rest, few k, length-append (encoding (f k)) (join (in_turn f (suc k) n ++ others)))
