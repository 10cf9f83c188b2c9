-- Items, nodes of the trie and values of keys that are shown alike are alike in what is told of them.
use Rattle.std.specs.Prelude.{ℕ, zero, suc, ◌==◌, if◌then◌else◌, not, Bool, true, false, List, [], ◌∷◌, get_or, length, map, take, Option, Some, None, Result, Ok, Err}
use Rattle.std.proofs.{Common.{◌≡◌, ◌∙◌, refl, sym, ap, arith, inl, inr}, lemmas.Bool.Decides.nat_tests, lemmas.List.length-map}
use Rattle.rlp_records.specs.Keccak.{keccak256}
use Rattle.rlp.specs.{Format.Encoding.{Item, string, list, list_of, no_items, item_and, items_from}, Format.Framing.items, Views.View.View, Views.View.view_of}
use Rattle.rlp.specs.{Values.RawItem.{item_by, item_within, raw_item_of, string_or_none}, DecoderError.DecoderError, Format.Framing.read_string}
use Rattle.rlp_trie.specs.{HexPrefix.ends_in_leaf, TrieNodeLaws.trie_node}
use Rattle.rlp_show.specs.Items.{branch_shown, deepest_shown, few_shown, inner_shown, item_shown, joined, last_shown, node_shown, node_told, pair_shown, shown_item, shown_items, shown_within, string_at, whole_node}
use Rattle.rlp_show.specs.{DisplayLaws.content_same, NodeRecords.{key_told_by, key_value, key_value_by}, Records.written, Value.Value, Value.values_of}

module _ (inside : Bool → List ℕ → Value) (within : List ℕ → Item) (back : (is_node : Bool) (b : List ℕ) → shown_item (inside is_node b) ≡ within b)
    (strings : (b d : List ℕ) → read_string b ≡ Ok d → within b ≡ string d) where
  items_back : (is_node : Bool) (bs : List (List ℕ))
      → shown_items (values_of (λ (v : View). inside is_node v.bytes) (map view_of bs)) ≡ items_from (map within bs)
  items_back is_node [] = refl
  items_back is_node (b ∷ bs) = let first = back is_node b in let others = items_back is_node bs in cc

  path_back : (b : List ℕ) (leaf : Bool) (r : Result (List ℕ) DecoderError) → read_string b ≡ r → ends_in_leaf (string_or_none r) ≡ Some leaf
      → string (string_or_none r) ≡ within b
  path_back b leaf (Ok d) is path = sym (strings b d is)
  path_back b leaf (Err e) is path = absurd cc

  last_back : (n : ℕ) (bs : List (List ℕ)) (v : View) → length bs ≡ suc n
      → joined (shown_items (values_of (λ (c : View). inside true c.bytes) (take n (map view_of bs))))
      (item_and (shown_item (inside false (get_or (map view_of bs) n v).bytes)) no_items) ≡ items_from (map within bs)
  last_back n [] v are = absurd (omega (arith, are))
  last_back zero (b ∷ []) v are = let last = back false b in cc
  last_back zero (b ∷ c ∷ bs) v are = absurd (omega (arith, are))
  last_back (suc n) (b ∷ bs) v are = let first = back true b in let others = last_back n bs v (omega (arith, are)) in cc

  module _ (hash : Option (List ℕ)) where
    pair_back : (b c : List ℕ) (kind : Option Bool) → ends_in_leaf (string_at b) ≡ kind
        → shown_item (pair_shown inside hash kind (view_of b) (view_of c)) ≡ list (item_and (within b) (item_and (within c) no_items))
    pair_back b c (Some leaf) is = let first = path_back b leaf (read_string b) refl is in let second = back (not leaf) c in cc
    pair_back b c None is = ap list (items_back false (b ∷ c ∷ []))

    few_back : (bs : List (List ℕ)) → shown_item (few_shown inside hash (map view_of bs)) ≡ list (items_from (map within bs))
    few_back [] = refl
    few_back (b ∷ []) = ap list (items_back false (b ∷ []))
    few_back (b ∷ c ∷ []) = pair_back b c (ends_in_leaf (string_at b)) refl
    few_back (b ∷ c ∷ d ∷ bs) = ap list (items_back false (b ∷ c ∷ d ∷ bs))

    many_back : (many : Bool) (v : View) (bs : List (List ℕ)) → (length (map view_of bs) == 17) ≡ many
        → shown_item (if many then branch_shown inside hash v (map view_of bs) else few_shown inside hash (map view_of bs)) ≡ list (items_from (map within bs))
    many_back true v bs is = ap list (last_back 16 bs v (grind (arith, nat_tests, is, length-map bs view_of)))
    many_back false v bs is = few_back bs

    pub node_back : (bs : List (List ℕ)) → shown_item (node_shown inside hash (map view_of bs)) ≡ list (items_from (map within bs))
    node_back [] = refl
    node_back (b ∷ bs) = many_back (length (map view_of (b ∷ bs)) == 17) (view_of b) (b ∷ bs) refl

  item_back : (is_node : Bool) (b : List ℕ) (r : Result (List ℕ) DecoderError) → shown_item (item_shown inside is_node b r) ≡ item_by within b r
  item_back is_node b (Ok d) = refl
  item_back true b (Err e) = node_back None (items b)
  item_back false b (Err e) = ap list (items_back false (items b))

string_within : (most : ℕ) (b d : List ℕ) → read_string b ≡ Ok d → item_within most b ≡ string d
unfolding item_within
string_within zero b d is = ap (λ r. string (string_or_none r)) is
string_within (suc most) b d is = ap (item_by (item_within most) b) is

-- items that are shown without their items: 256 - 16 is 240
inner_back : (b : List ℕ) (bs : List (List ℕ)) (e : DecoderError) → read_string b ≡ Err e → items b ≡ bs → shown_item (inner_shown b (map view_of bs)) ≡ item_within 240 b
unfolding item_within
inner_back b [] e is none = sym (ap (item_by (item_within 239) b) is ∙ ap (λ bs. list_of (map (item_within 239) bs)) none)
inner_back b (c ∷ bs) e is some = refl

end_back : (b : List ℕ) (r : Result (List ℕ) DecoderError) → read_string b ≡ r → shown_item (last_shown b r) ≡ item_within 240 b
end_back b (Ok d) is = sym (string_within 240 b d is)
end_back b (Err e) is = inner_back b (items b) e is refl

-- how many lists an item may nest in all, if this number of them are shown item by item
abbrev in_all : ℕ → ℕ
in_all zero = 240
in_all (suc most) = suc (in_all most)

within_back : (most : ℕ) (is_node : Bool) (b : List ℕ) → shown_item (shown_within most is_node b) ≡ item_within (in_all most) b
unfolding shown_within item_within
within_back zero is_node b = end_back b (read_string b) refl
within_back (suc most) is_node b = item_back (shown_within most) (item_within (in_all most)) (within_back most) (string_within (in_all most)) is_node b (read_string b)

-- items that are shown alike are equal
pub raw_apart : (b c : List ℕ) → shown_within deepest_shown false b ≡ shown_within deepest_shown false c → raw_item_of b ≡ raw_item_of c
raw_apart b c is = sym (within_back 16 false b) ∙ ap shown_item is ∙ within_back 16 false c

told_back : (m : trie_node.reading.M) → shown_item (whole_node m) ≡ node_told m
told_back (inl empty) = refl
told_back (inr m) =
    node_back (shown_within 16) raw_item_of (within_back 16) (string_within 256) (Some (keccak256 (written trie_node.reading (inr m)))) (items (written trie_node.reading (inr m)))

pub node_apart : (m n : trie_node.reading.M) → whole_node m ≡ whole_node n → node_told m ≡ node_told n
node_apart m n is = sym (told_back m) ∙ ap shown_item is ∙ told_back n

by_strings : (key other b c : List ℕ) (r s : Result (List ℕ) DecoderError) → read_string b ≡ r → read_string c ≡ s
    → key_value_by key b r ≡ key_value_by other c s → key_told_by key b r ≡ key_told_by other c s
unfolding shown_within
by_strings key other b c (Ok d) (Ok e) first second is = ap inl (content_same is)
by_strings key other b c (Err d) (Err e) first second is = ap inr (raw_apart b c is)
by_strings key other b c (Ok d) (Err e) first second is = let items = ap (item_shown (shown_within 15) false c) second in absurd cc
by_strings key other b c (Err d) (Ok e) first second is = let items = ap (item_shown (shown_within 15) false b) first in absurd cc

pub key_apart : (p q : List ℕ × List ℕ) → key_value p.0 p.1 ≡ key_value q.0 q.1 → key_told_by p.0 p.1 (read_string p.1) ≡ key_told_by q.0 q.1 (read_string q.1)
key_apart p q is = by_strings p.0 q.0 p.1 q.1 (read_string p.1) (read_string q.1) refl refl is
