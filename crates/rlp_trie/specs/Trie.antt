-- How nodes of the trie are written and read.
use Rattle.std.specs.{Prelude.{ℕ, None, get_or}, Vec.vec_items}
use Rattle.rlp.specs.Codec.{Codec, Fields, byte_string, each, end, field, struct_of}
use Rattle.rlp_trie.specs.{declared.branch.Branch.Branch, declared.branch_child.BranchChild.BranchChild, declared.leaf.Extension.Extension}
use Rattle.rlp_trie.specs.{declared.leaf.Leaf.Leaf, BranchChildLaws.branch_child, ChildLaws.child, PathLaws.path}

-- a path and a value
abbrev pub leaf_fields : Fields Leaf
leaf_fields = field (λ (l : Leaf). l.path) (path 2) (field (λ (l : Leaf). l.value) (byte_string vec_items) end)

-- the list of the fields
abbrev pub leaf : Codec Leaf
leaf = struct_of leaf_fields

-- a path and a child
abbrev pub extension_fields : Fields Extension
extension_fields = field (λ (e : Extension). e.path) (path 0) (field (λ (e : Extension). e.child) child end)

-- the list of the fields
abbrev pub extension : Codec Extension
extension = struct_of extension_fields

-- the child at place k
abbrev pub child_at : ℕ → Branch → BranchChild
child_at k b = get_or b.children k (record { 0 = None })

-- sixteen children, and the value
abbrev pub branch_fields : Fields Branch
branch_fields = each child_at branch_child (field (λ (b : Branch). b.value) (byte_string vec_items) end) 0 16

-- the list of the fields
abbrev pub branch : Codec Branch
branch = struct_of branch_fields
