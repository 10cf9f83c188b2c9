-- The paths of an ordered list: the nibbles of the encodings of the places.
use Rattle.std.proofs.Common.{◌≡◌, ◌≢◌, ◌^◌, ◌<◌, ◌≤◌, ◌+◌, ◌*◌, ◌∙◌, ⊎_elim, ◌⊎◌, inl, inr, ap, ℕ, zero, suc, Bool, true, false, if◌then◌else◌, List, [], ◌∷◌, ◌++◌, length, refl, sym, arith, append-nil}
use Rattle.std.proofs.lemmas.{Bool.Decides.nat_tests, Bool.cond-true, Bool.cond-false, Slice.Eq.bytes_eq-Decides, List.length-map, List.Elements.{All-cons, All-head, All-map, All-tail}}
use Rattle.std.specs.{Borrow.Bor, List.slice_get, Prelude.{All, map}, Str.bytes_eq}
use Rattle.rlp_format.specs.{Format.Encoding.{AreBytes, BeginsWith, IsSized, big_endian, encoding, is_low_byte, string, written_header}, Values.Value.number_item}
use Rattle.rlp_format.proofs.Lemmas.{Digits.{big_endian_bytes, big_endian_length, big_endian_same}, Headers.written_header_short}
use Rattle.rlp_reading.proofs.Lemmas.Items.{prefix_free}
use Rattle.rlp_trie.specs.{HexPrefix.{nibbles_of}, Ordered.{pairs_from, value_at}}
use Rattle.rlp_trie.specs.{Listed.AreListed, OrderedPairs.slice_bytes}
use Rattle.rlp_trie.proofs.{PathLemmas.nibbles_are}
use Rattle.rlp_trie.proofs.PairLemmas.{AreShort, are_apart, are_prefix_free, is_apart_from}

-- the key of a place
abbrev pub key : ℕ → List ℕ
key i = encoding (number_item i)

short_string : (d : List ℕ) → length d ≤ 55 → AreBytes d → (length (encoding (string d)) ≤ length d + 1) × AreBytes (encoding (string d))
unfolding encoding
short_string d few bytes = by (is_low_byte d)
  where
    headed : (length (written_header 0x80 (length d) ++ d) ≤ length d + 1) × AreBytes (written_header 0x80 (length d) ++ d)
    headed = rw (written_header_short 0x80 (length d) few)
        (omega arith, All-cons (λ byte. byte < 2 ^ 8) (0x80 + length d) d (omega (arith, few)) bytes)

    by : (t : Bool) → (length (if t then d else written_header 0x80 (length d) ++ d) ≤ length d + 1)
        × AreBytes (if t then d else written_header 0x80 (length d) ++ d)
    by true = (omega arith, bytes)
    by false = headed

pub key_length : (i : ℕ) → i < 2 ^ 64 → length (key i) ≤ 9
key_length i small =
    let most = big_endian_length i small in
    let whole = (short_string (big_endian i) (omega (arith, most)) (big_endian_bytes i)).0 in omega (arith, most, whole)

pub key_bytes : (i : ℕ) → i < 2 ^ 64 → AreBytes (key i)
key_bytes i small =
    let most = big_endian_length i small in (short_string (big_endian i) (omega (arith, most)) (big_endian_bytes i)).1

key_sized : (i : ℕ) → i < 2 ^ 64 → IsSized (number_item i)
key_sized i small = let most = key_length i small in omega (arith, most)

key_same : (i j : ℕ) → number_item i ≡ number_item j → i ≡ j
key_same i j same = big_endian_same i j (let digits : big_endian i ≡ big_endian j = cc in digits)

nibbles_length : (d : List ℕ) → length (nibbles_of d) ≡ 2 * length d
nibbles_length [] = refl
nibbles_length (b ∷ d) = let rest = nibbles_length d in omega (arith, rest)

pub path_length : (i : ℕ) → i < 2 ^ 64 → length (nibbles_of (key i)) < 19
path_length i small = let most = key_length i small in let twice = nibbles_length (key i) in omega (arith, most, twice)

-- paths that aren't apart are of keys of which one begins the other
begins_of : (a b : List ℕ) → are_apart (nibbles_of a) (nibbles_of b) ≡ false → BeginsWith a b ⊎ BeginsWith b a
begins_of [] b is = inr (b, refl)
begins_of (x ∷ a) [] is = inl (x ∷ a, refl)
begins_of (x ∷ a) (y ∷ b) is =
    let same : x ≡ y = grind (arith, nat_tests) in
    let rest : are_apart (nibbles_of a) (nibbles_of b) ≡ false = grind (arith, nat_tests) in
    ⊎_elim
    (λ (more, whole). inl (more, let e : x ∷ a ≡ y ∷ (b ++ more) = cc in e))
    (λ (more, whole). inr (more, let e : y ∷ b ≡ x ∷ (a ++ more) = cc in e))
    (begins_of a b rest)

keys_differ : (i j : ℕ) → i < 2 ^ 64 → j < 2 ^ 64 → i ≢ j → BeginsWith (key i) (key j) ⊎ BeginsWith (key j) (key i) → ⊥
keys_differ i j low small other (inl (more, is)) =
    other (key_same i j (prefix_free (number_item i) (number_item j) [] more (key_sized i low) (key_sized j small) (append-nil (key i) ∙ is)))
keys_differ i j low small other (inr (more, is)) =
    other (key_same i j (prefix_free (number_item i) (number_item j) more [] (key_sized i low) (key_sized j small) (sym is ∙ sym (append-nil (key j)))))

pub keys_apart : (i j : ℕ) → i < 2 ^ 64 → j < 2 ^ 64 → i ≢ j → are_apart (nibbles_of (key i)) (nibbles_of (key j)) ≡ true
keys_apart i j low small other = by (are_apart (nibbles_of (key i)) (nibbles_of (key j))) refl
  where
    by : (t : Bool) → are_apart (nibbles_of (key i)) (nibbles_of (key j)) ≡ t → t ≡ true
    by true is = refl
    by false is = absurd (keys_differ i j low small other (begins_of (key i) (key j) is))

-- ---- the pairs of a list

apart_from : (i j : ℕ) (vs : List (List ℕ)) → i < j → j + length vs ≤ 2 ^ 64 → is_apart_from (nibbles_of (key i)) (pairs_from j vs) ≡ true
apart_from i j [] less fits = refl
apart_from i j (v ∷ vs) less fits =
    let first = keys_apart i j (omega arith) (omega arith) (omega arith) in
    let rest = apart_from i (suc j) vs (omega arith) (omega arith) in
    cc

pub free_from : (i : ℕ) (vs : List (List ℕ)) → i + length vs ≤ 2 ^ 64 → are_prefix_free (pairs_from i vs) ≡ true
free_from i [] fits = refl
free_from i (v ∷ vs) fits =
    let first = apart_from i (suc i) vs (omega arith) (omega arith) in
    let rest = free_from (suc i) vs (omega arith) in
    cc

listed_tail : (i : ℕ) (v : List ℕ) (vs : List (List ℕ)) → AreListed i (v ∷ vs) → AreListed (suc i) vs
listed_tail i v vs are = record { values = All-tail (λ v. length v < 2 ^ 63) v vs are.values; places = omega (arith, are.places) }

pub short_from : (i : ℕ) (vs : List (List ℕ)) → AreListed i vs → AreShort 19 (pairs_from i vs)
short_from i [] are = tt
short_from i (v ∷ vs) are =
    let low : i < 2 ^ 64 = omega (arith, are.places) in (
      record { are = nibbles_are (key i) (key_bytes i low); path = path_length i low; value = All-head (λ v. length v < 2 ^ 63) v vs are.values },
      short_from (suc i) vs (listed_tail i v vs are),
    )

apart_self : (x : List ℕ) → are_apart x x ≡ false
apart_self [] = refl
apart_self (a ∷ x) = grind (arith, nat_tests, apart_self x)

paths_differ : (i j : ℕ) → i < 2 ^ 64 → j < 2 ^ 64 → i ≢ j → bytes_eq (nibbles_of (key i)) (nibbles_of (key j)) ≡ false
paths_differ i j low small other = by (bytes_eq (nibbles_of (key i)) (nibbles_of (key j))) refl
  where
    by : (t : Bool) → bytes_eq (nibbles_of (key i)) (nibbles_of (key j)) ≡ t → t ≡ false
    by false is = refl
    by true is =
        let same : nibbles_of (key i) ≡ nibbles_of (key j) = (bytes_eq-Decides (nibbles_of (key i)) (nibbles_of (key j))).0 is in
        let apart = keys_apart i j low small other in
        let self = apart_self (nibbles_of (key j)) in
        absurd (let no : ⊥ = cc (ap (λ x. are_apart x (nibbles_of (key j))) same) in no)

-- the value at the path of a place is the one at the place
pub value_from : (i j : ℕ) (vs : List (List ℕ)) → i + length vs ≤ 2 ^ 64 → i + j < 2 ^ 64 → value_at (nibbles_of (key (i + j))) (pairs_from i vs) ≡ slice_get vs j
value_from i j [] fits small = refl
value_from i zero (v ∷ vs) fits small =
    rw (let same : i + zero ≡ i = omega arith in same) (cond-true (bytes_eq (nibbles_of (key i)) (nibbles_of (key i))) _ _ ((bytes_eq-Decides (nibbles_of (key i)) (nibbles_of (key i))).1 refl))
value_from i (suc j) (v ∷ vs) fits small =
    cond-false (bytes_eq (nibbles_of (key i)) (nibbles_of (key (i + suc j)))) _ _ (paths_differ i (i + suc j) (omega arith) small (omega arith))
    ∙ ap (λ n. value_at (nibbles_of (key n)) (pairs_from (suc i) vs)) (let same : i + suc j ≡ suc i + j = omega arith in same)
    ∙ value_from (suc i) j vs (omega arith) (omega arith)

-- what slices hold is listed
pub listed_all : (values : List (Bor (List ℕ))) → length values ≤ 2 ^ 64 → All (λ v. length v.now < 2 ^ 63) values → AreListed 0 (map slice_bytes values)
listed_all values few all = record { values = All-map (λ v. length v < 2 ^ 63) slice_bytes values all; places = omega (arith, few, length-map values slice_bytes) }
