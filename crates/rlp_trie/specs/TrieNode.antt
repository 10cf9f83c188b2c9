-- How nodes of the trie of every kind are written and read.
use Rattle.std.specs.Prelude.{ℕ, ⊤, ◌⊎◌, ◌==◌, if◌then◌else◌, Bool, false, List, [], Result, Ok, Err}
use Rattle.std.proofs.Common.{inl, inr}
use Rattle.rlp.specs.{DecoderError.DecoderError, Format.Encoding.{Item, string}, Values.Sums.sum_item, Views.View.{View, item_at, item_count, strict_view_of, view_string}}
use Rattle.rlp.specs.Form.{Answer, Fault, go_on, here, incorrect_list_len, map_answer, seen_fault}
use Rattle.rlp_trie.specs.{BranchChild.is_empty_string, HexPrefix.is_leaf_path, Trie.{branch, extension, leaf}, declared.trie_node.TrieNode.TrieNode}
use Rattle.rlp_trie.specs.declared.trie_node.TrieNode.TheVariants.{Branch, Empty, Extension, Leaf}

-- ---- values

-- the empty string for the empty trie, or the item of the leaf, the extension or the branch
abbrev pub node_item : TrieNode → Item
node_item Empty = string []
node_item (Leaf l) = leaf.item l
node_item (Extension e) = extension.item e
node_item (Branch b) = branch.item b

-- the leaf, the extension or the branch fits
abbrev pub IsTrieNode : TrieNode → Type 0
IsTrieNode Empty = ⊤
IsTrieNode (Leaf l) = leaf.Fits l
IsTrieNode (Extension e) = extension.Fits e
IsTrieNode (Branch b) = branch.Fits b

-- What contracts see of a node: that it is the empty trie, or what they see of the leaf, the extension or the branch.
abbrev pub SeenNode : Type 0
SeenNode = ⊤ ⊎ (leaf.reading.M ⊎ (extension.reading.M ⊎ branch.reading.M))

abbrev pub seen_node : TrieNode → SeenNode
seen_node Empty = inl tt
seen_node (Leaf l) = inr (inl (leaf.reading.seen l))
seen_node (Extension e) = inr (inr (inl (extension.reading.seen e)))
seen_node (Branch b) = inr (inr (inr (branch.reading.seen b)))

-- the item of a node, by what contracts see of the node
abbrev pub written_node : SeenNode → Item
written_node = sum_item (λ empty. string []) (sum_item leaf.reading.item (sum_item extension.reading.item branch.reading.item))

-- ---- reading

-- whether a string that was read is the path of a leaf
abbrev pub is_leaf_string : Result (List ℕ) DecoderError → Bool
is_leaf_string (Ok d) = is_leaf_path d
is_leaf_string (Err e) = false

-- whether an item is the path of a leaf
abbrev pub is_leaf_item : Result View DecoderError → Bool
is_leaf_item (Ok item) = is_leaf_string (view_string item)
is_leaf_item (Err e) = false

-- whether the first item of a list is the path of a leaf
abbrev pub begins_as_leaf : List ℕ → Bool
begins_as_leaf b = is_leaf_item (item_at (strict_view_of b) 0)

-- What a list of two items gives: a leaf if the list begins with the path of a leaf, and else an extension.
abbrev pub pair_of : List ℕ → Answer SeenNode Fault
pair_of b =
    if begins_as_leaf b then map_answer (λ l. inr (inl l)) (leaf.reading.read (strict_view_of b))
    else map_answer (λ e. inr (inr (inl e))) (extension.reading.read (strict_view_of b))

-- What a list with this number of items gives: a leaf or an extension for 2, a branch for 17, and a fault for any other number.
abbrev pub list_of_len : List ℕ → ℕ → Answer SeenNode Fault
list_of_len b n =
    if n == 2 then pair_of b
    else if n == 17 then map_answer (λ c. inr (inr (inr c))) (branch.reading.read (strict_view_of b))
    else here (Err incorrect_list_len)

-- What the bytes of an item give, read strictly: the empty trie for the empty string, and for a list a node of another kind.
abbrev pub node_of : List ℕ → Answer SeenNode Fault
node_of b = if is_empty_string b then here (Ok (inl tt)) else go_on (here (seen_fault (item_count (strict_view_of b)))) (list_of_len b)
