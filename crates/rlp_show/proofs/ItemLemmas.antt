-- Lists are taken item by item, and items by what their bytes begin with.
use Rattle.std.proofs.Common.{◌≡◌, ◌≢◌, ◌<◌, ◌-◌, ℕ, zero, suc, Bool, true, false, List, [], ◌∷◌, length, map, refl, ap, ◌∙◌, arith, None, Ok, Err}
use Rattle.rlp.specs.{Views.View.item_views, Views.View.view_of, DecoderError.DecoderError, Format.Framing.read_string}
use Rattle.rlp_trie.specs.{TrieNodeLaws.trie_node, declared.trie_node.TrieNode.TrieNode}
use Rattle.rlp_show.specs.Items.{deepest_shown, hashed_node, inner_shown, item_shown, items_shown, last_shown, node_shown, shown_within, whole_node}
use Rattle.rlp_show.specs.Value.{Steps, Value, after, after_items, array, bytes, content, values_of}
use Rattle.rlp_show.specs.{declared.sink.Bracket.TheVariants.CloseSquare, declared.sink.Bracket.TheVariants.OpenSquare, declared.sink.BytesKind.TheVariants.Any}
use Rattle.rlp_show.specs.{Records.written, NodeRecords.key_value, NodeRecords.key_value_by, NodeRecords.string_content}
use Rattle.rlp_trie.specs.declared.trie_node.TrieNode.TheVariants as node

-- ---- lists

pub items_taken : {A S : Type 0} (shown : A → Value) (st : Steps S) (name : List ℕ) (xs : List A) (s : S) → 0 < length xs
    → after st name (array (values_of shown xs)) s ≡ st.bracket CloseSquare (after_items st name 0 (values_of shown xs) (st.bracket OpenSquare s))
items_taken shown st name [] s some = absurd (omega (arith, some))
items_taken shown st name (x ∷ xs) s some = refl

pub seen_taken : {A M S : Type 0} (seen : A → M) (shown : M → Value) (st : Steps S) (name : List ℕ) (xs : List A) (s : S) → 0 < length xs
    → after st name (array (values_of shown (map seen xs))) s ≡ st.bracket CloseSquare (after_items st name 0 (values_of shown (map seen xs)) (st.bracket OpenSquare s))
seen_taken seen shown st name [] s some = absurd (omega (arith, some))
seen_taken seen shown st name (x ∷ xs) s some = refl

-- ---- items

pub string_shown : (most : ℕ) (is_node : Bool) (b d : List ℕ) → read_string b ≡ Ok d → shown_within most is_node b ≡ content (bytes Any d)
unfolding shown_within
string_shown zero is_node b d is = ap (last_shown b) is
string_shown (suc most) is_node b d is = ap (item_shown (shown_within most) is_node b) is

-- a list that is shown without its items
pub last_list_shown : (most : ℕ) (is_node : Bool) (b : List ℕ) (e : DecoderError) → read_string b ≡ Err e → most ≡ 0
    → shown_within most is_node b ≡ inner_shown b (item_views (view_of b))
unfolding shown_within
last_list_shown zero is_node b e is last = ap (last_shown b) is
last_list_shown (suc most) is_node b e is last = absurd (omega arith)

-- a list
pub list_shown : (most : ℕ) (is_node : Bool) (b : List ℕ) (e : DecoderError) → read_string b ≡ Err e → most ≢ 0 → is_node ≡ false
    → shown_within most is_node b ≡ items_shown (shown_within (most - 1)) false (item_views (view_of b))
unfolding shown_within
list_shown zero is_node b e is some kind = absurd (some refl)
list_shown (suc most) true b e is some kind = absurd cc
list_shown (suc most) false b e is some kind =
    let same : most ≡ suc most - 1 = omega arith in
    ap (item_shown (shown_within most) false b) is ∙ ap (λ n. items_shown (shown_within n) false (item_views (view_of b))) same

pub nodes_shown : (most : ℕ) (is_node : Bool) (b : List ℕ) (e : DecoderError) → read_string b ≡ Err e → most ≢ 0 → is_node ≡ true
    → shown_within most is_node b ≡ node_shown (shown_within (most - 1)) None (item_views (view_of b))
unfolding shown_within
nodes_shown zero is_node b e is some kind = absurd (some refl)
nodes_shown (suc most) true b e is some kind =
    let same : most ≡ suc most - 1 = omega arith in
    ap (item_shown (shown_within most) true b) is ∙ ap (λ n. node_shown (shown_within n) None (item_views (view_of b))) same
nodes_shown (suc most) false b e is some kind = absurd cc

-- nodes by themselves
pub other_nodes : (n : TrieNode) → n ≢ node.Empty → whole_node (trie_node.reading.seen n) ≡ hashed_node (written trie_node.reading (trie_node.reading.seen n))
other_nodes node.Empty other = absurd (other refl)
other_nodes (node.Leaf l) other = refl
other_nodes (node.Extension e) other = refl
other_nodes (node.Branch b) other = refl

pub ruleset items_by_bytes = (string_shown, last_list_shown, list_shown, nodes_shown)

-- the value of a key of a node record
module _ {S : Type 0} (st : Steps S) (name key b : List ℕ) (s : S) where
  pub string_at_key : (d : List ℕ) → read_string b ≡ Ok d → after st name (key_value key b) s ≡ st.put name (string_content key d) s
  string_at_key d is = ap (λ r. after st name (key_value_by key b r) s) is

  pub list_at_key : (e : DecoderError) → read_string b ≡ Err e → after st name (key_value key b) s ≡ after st name (shown_within deepest_shown false b) s
  list_at_key e is = ap (λ r. after st name (key_value_by key b r) s) is

pub ruleset values_of_keys = (string_at_key, list_at_key)
