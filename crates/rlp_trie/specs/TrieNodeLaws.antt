-- Nodes of the trie are read back, and are read only from their encodings.
use Rattle.std.proofs.Common.{arith, ℕ, ◌<◌, ◌==◌, ◌^◌, ◌∙◌, ◌∷◌, ◌≡◌, ◌≢◌, ◌⊎◌, if◌then◌else◌, Bool, Err, List, Ok, Result, [], ap, false, inl, inr, length, refl, sym, true, unwrap_or}
use Rattle.std.proofs.lemmas.Bool.{cond-false, cond-true}
use Rattle.std.specs.{Prelude.⊤, Vec.vec_items}
use Rattle.rlp.specs.{Codec.{Codec, lawful}, Form.{Answer, Fault, and_then, here, incorrect_list_len, map_answer, map_value, seen_fault}}
use Rattle.rlp.specs.{Format.Encoding.{AreBytes, IsSized, Item, encoding, list_of, string}, Views.View.{item_count, strict_view_of}}
use Rattle.rlp_reading.proofs.{Lemmas.StringsHeld.{held_only}, RawLaws.{ReadsItems, items_lawful}, Lemmas.WholeLists.{held_at, held_count}, ListLaws.{goes_on, items_sized}}
use Rattle.rlp_reading.specs.FirstItems.{item_type}
use Rattle.rlp_records.proofs.Alone.{result_same}
use Rattle.rlp_trie.specs.{BranchChild.is_empty_string, Child.child_item, EmptyStringLaws.{empty_found, empty_only, other_item}, HexPrefix.is_leaf_flag}
use Rattle.rlp_trie.specs.{Trie.{branch, branch_fields, extension, extension_fields, leaf, leaf_fields}, declared.trie_node.TrieNode.{TrieNode}}
use Rattle.rlp_trie.specs.TrieNode.{IsTrieNode, SeenNode, begins_as_leaf, is_leaf_item, is_leaf_string, list_of_len, node_item, node_of, seen_node, written_node}
use Rattle.rlp_trie.specs.{declared.branch.Branch.Branch, declared.leaf.Extension.Extension, declared.leaf.Leaf.Leaf, declared.path.Path.Path}
use Rattle.rlp_trie.specs.declared.trie_node.TrieNode.TheVariants as node

-- ---- what is written is read

module _ (xs : List Item) (sized : IsSized (list_of xs)) where
  abbrev whole_list : List ℕ
  whole_list = encoding (list_of xs)

  -- a list is read by the number of the items
  by_len : list_of xs ≢ string [] → (node_of whole_list).result ≡ (list_of_len whole_list (length xs)).result
  by_len other =
      result_same (cond-false (is_empty_string whole_list) _ _ (other_item (list_of xs) sized other))
      ∙ ap (λ r. and_then (seen_fault r) (λ n. (list_of_len whole_list n).result)) (held_count (strict_view_of whole_list) xs sized refl)

-- a list that begins with a path begins with the path of a leaf or of an extension, as the path says
begins_by : (flag : ℕ) (p : Path flag) (x : Item) → IsSized (list_of (string (vec_items p.bytes) ∷ x ∷ []))
    → begins_as_leaf (encoding (list_of (string (vec_items p.bytes) ∷ x ∷ []))) ≡ is_leaf_flag flag
begins_by flag p x sized =
    let first = string (vec_items p.bytes) in
    let xs = first ∷ x ∷ [] in
    let b = encoding (list_of xs) in
    let parts = items_sized true b xs sized refl in
    ap is_leaf_item (held_at (strict_view_of b) [] (x ∷ []) first sized refl)
    ∙ ap is_leaf_string (held_only (strict_view_of (encoding first)) (vec_items p.bytes) parts.0 refl)
    ∙ ap (λ leaf. unwrap_or leaf false) p.encoded

leaf_back : (l : Leaf) → leaf.Fits l → IsSized (leaf.item l) → (node_of (encoding (leaf.item l))).result ≡ Ok (seen_node (node.Leaf l))
leaf_back l fit sized =
    by_len (leaf_fields.items l) sized (λ same. let no : ⊥ = cc in no)
    ∙ result_same (cond-true (begins_as_leaf (encoding (leaf.item l))) _ _ (begins_by 2 l.path (string (vec_items l.value)) sized))
    ∙ ap (map_value (λ m. inr (inl m))) ((leaf.reads_strictly.back true).back (encoding (leaf.item l)) l sized fit refl)

extension_back : (e : Extension) → extension.Fits e → IsSized (extension.item e) → (node_of (encoding (extension.item e))).result ≡ Ok (seen_node (node.Extension e))
extension_back e fit sized =
    by_len (extension_fields.items e) sized (λ same. let no : ⊥ = cc in no)
    ∙ result_same (cond-false (begins_as_leaf (encoding (extension.item e))) _ _ (begins_by 0 e.path (child_item e.child) sized))
    ∙ ap (map_value (λ m. inr (inr (inl m)))) ((extension.reads_strictly.back true).back (encoding (extension.item e)) e sized fit refl)

branch_back : (x : Branch) → branch.Fits x → IsSized (branch.item x) → (node_of (encoding (branch.item x))).result ≡ Ok (seen_node (node.Branch x))
branch_back x fit sized =
    by_len (branch_fields.items x) sized (λ same. let no : ⊥ = cc in no)
    ∙ ap (map_value (λ m. inr (inr (inr m)))) ((branch.reads_strictly.back true).back (encoding (branch.item x)) x sized fit refl)

node_back : (n : TrieNode) → IsTrieNode n → IsSized (node_item n) → (node_of (encoding (node_item n))).result ≡ Ok (seen_node n)
node_back node.Empty fit sized = result_same (cond-true (is_empty_string (encoding (string []))) _ _ empty_found)
node_back (node.Leaf l) fit sized = leaf_back l fit sized
node_back (node.Extension e) fit sized = extension_back e fit sized
node_back (node.Branch x) fit sized = branch_back x fit sized

-- ---- and nothing else

-- what a list gives: a leaf or an extension for two items, a branch for seventeen
module _ {L E X : Type 0} (two leaf many : Bool) (l : Answer L Fault) (e : Answer E Fault) (x : Answer X Fault) where
  abbrev sided : Result (⊤ ⊎ (L ⊎ (E ⊎ X))) Fault
  sided =
      (if two then (if leaf then map_answer (λ l. inr (inl l)) l else map_answer (λ e. inr (inr (inl e))) e)
      else if many then map_answer (λ c. inr (inr (inr c))) x else here (Err incorrect_list_len)).result

  on_none : sided ≡ Ok (inl tt) → ⊥
  on_none is = grind arith

  on_first : (v : L) → sided ≡ Ok (inr (inl v)) → l.result ≡ Ok v
  on_first v is = grind arith

  on_second : (v : E) → sided ≡ Ok (inr (inr (inl v))) → e.result ≡ Ok v
  on_second v is = grind arith

  on_third : (v : X) → sided ≡ Ok (inr (inr (inr v))) → x.result ≡ Ok v
  on_third v is = grind arith

module _ (b : List ℕ) (bytes : AreBytes b) (fits : length b < 2 ^ 64) where
  abbrev IsNode : TrieNode → Type 0
  IsNode n = IsTrieNode n × (b ≡ encoding (node_item n))

  -- what a list with this number of items gives
  len_only : (n : TrieNode) (k : ℕ) → (list_of_len b k).result ≡ Ok (seen_node n) → IsNode n
  len_only node.Empty k is = absurd (on_none (k == 2) (begins_as_leaf b) (k == 17) _ _ _ is)
  len_only (node.Leaf l) k is = leaf.reads_strictly.exact.only b l bytes fits (on_first (k == 2) (begins_as_leaf b) (k == 17) _ _ _ _ is)
  len_only (node.Extension e) k is = extension.reads_strictly.exact.only b e bytes fits (on_second (k == 2) (begins_as_leaf b) (k == 17) _ _ _ _ is)
  len_only (node.Branch x) k is = branch.reads_strictly.exact.only b x bytes fits (on_third (k == 2) (begins_as_leaf b) (k == 17) _ _ _ _ is)

  empty_by : (n : TrieNode) → (let s : Result SeenNode Fault = Ok (inl tt) in s) ≡ Ok (seen_node n) → b ≡ encoding (string []) → IsNode n
  empty_by node.Empty same is = (tt, is)
  empty_by n same is = absurd (let no : ⊥ = cc in no)

  node_by : (n : TrieNode) (empty : Bool) → is_empty_string b ≡ empty → (node_of b).result ≡ Ok (seen_node n) → IsNode n
  node_by n true empty is = empty_by n (sym (result_same (cond-true (is_empty_string b) _ _ empty)) ∙ is) (empty_only b empty)
  node_by n false empty is =
      let g = goes_on (seen_fault (item_count (strict_view_of b))) (λ k. (list_of_len b k).result) (seen_node n)
      (sym (result_same (cond-false (is_empty_string b) _ _ empty)) ∙ is) in
      len_only n g.value g.then

pub node_only : (b : List ℕ) (n : TrieNode) → AreBytes b → length b < 2 ^ 64 → (node_of b).result ≡ Ok (seen_node n) → IsTrieNode n × (b ≡ encoding (node_item n))
node_only b n bytes fits is = node_by b bytes fits n (is_empty_string b) refl is

-- if contracts see two nodes alike and one of the two fits, both fit
node_fits : (n m : TrieNode) → seen_node n ≡ seen_node m → IsTrieNode n → IsTrieNode m
node_fits n node.Empty same fit = tt
node_fits (node.Leaf l) (node.Leaf m) same fit = leaf.reads_strictly.told.fits l m (let one : leaf.reading.seen l ≡ leaf.reading.seen m = cc in one) fit
node_fits (node.Extension e) (node.Extension f) same fit =
    extension.reads_strictly.told.fits e f (let one : extension.reading.seen e ≡ extension.reading.seen f = cc in one) fit
node_fits (node.Branch b) (node.Branch c) same fit = branch.reads_strictly.told.fits b c (let one : branch.reading.seen b ≡ branch.reading.seen c = cc in one) fit
node_fits n m same fit = absurd (let no : ⊥ = cc in no)

node_same : (n : TrieNode) → written_node (seen_node n) ≡ node_item n
node_same node.Empty = refl
node_same (node.Leaf l) = leaf.reads_strictly.told.written l
node_same (node.Extension e) = extension.reads_strictly.told.written e
node_same (node.Branch b) = branch.reads_strictly.told.written b

pub node_items : ReadsItems IsTrieNode node_item seen_node written_node node_of
node_items = record { back = node_back; only = node_only; fits = node_fits; same = node_same }

-- nodes of the trie of every kind, read from the first item of a view
abbrev pub trie_node : Codec TrieNode
trie_node = lawful (item_type IsTrieNode node_item seen_node written_node node_of true) (items_lawful _ _ _ _ _ true node_items)
