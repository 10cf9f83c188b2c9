-- The text of a fault of a tree.
use Rattle.std.specs.Prelude.{ℕ, List, codes}
use Rattle.rlp_reading.specs.{declared.flat.TreeFault.TreeFault, declared.flat.TreeFault.TheVariants.{Decoding, TooDeep}, Views.Text.error_name}

-- what a fault of a tree prints
abbrev pub tree_fault_name : TreeFault → List ℕ
tree_fault_name (Decoding e) = error_name e
tree_fault_name TooDeep = codes "TooDeep"
