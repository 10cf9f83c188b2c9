-- Nodes that a trie can have, by what each of them shows.
use Rattle.std.specs.{Prelude.{ℕ, ◌+◌, ◌==◌, nat_le, Bool, true, false, List, [], ◌∷◌, Option, Some, None, Result, Ok, Err}, Vec.vec_items}
use Rattle.rlp.specs.{DecoderError.DecoderError, Views.View.{item_count, strict_view_of}}
use Rattle.rlp_trie.specs.{declared.branch.Branch.Branch, declared.branch_child.BranchChild.BranchChild, declared.child.Child.Child}
use Rattle.rlp_trie.specs.{declared.child.Child.TheVariants.{Node, Inline}, declared.trie_node.TrieNode.TrieNode}
use Rattle.rlp_trie.specs.declared.trie_node.TrieNode.TheVariants as node

-- 1 for a child, and 0 for none
abbrev pub one_child : Option Child → ℕ
one_child None = 0
one_child (Some c) = 1

-- the number of the places that have a child
abbrev pub child_count : List BranchChild → ℕ
child_count [] = 0
child_count (place ∷ more) = one_child place.0 + child_count more

-- 1 for a value, and 0 for no bytes, which are no value
abbrev pub value_count : List ℕ → ℕ
value_count [] = 0
value_count (byte ∷ more) = 1

-- the branch has at least two children, or a child and a value
abbrev pub is_possible_branch : Branch → Bool
is_possible_branch b = nat_le 2 (child_count b.children + value_count (vec_items b.value))

-- whether a list has as many items as a branch
abbrev pub is_branch_count : Result ℕ DecoderError → Bool
is_branch_count (Ok n) = n == 17
is_branch_count (Err e) = false

-- a node that is named by its hash may be a branch, and a node that is kept in its parent may be a branch if it has as many items
abbrev pub may_be_branch : Child → Bool
may_be_branch (Node hash) = true
may_be_branch (Inline n) = is_branch_count (item_count (strict_view_of n.item))

-- a trie can have the node: the empty trie, a leaf with a value, an extension whose child may be a branch, or a branch with at least two children, or with a child and a value
abbrev pub is_possible : TrieNode → Bool
is_possible node.Empty = true
is_possible (node.Leaf l) = nat_le 1 (value_count (vec_items l.value))
is_possible (node.Extension e) = may_be_branch e.child
is_possible (node.Branch b) = is_possible_branch b
