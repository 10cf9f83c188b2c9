use Rattle.std.proofs.Common.{◌≡◌, ◌++◌, length}
use Rattle.rlp.specs.Views.View.{item_views}
use Rattle.rlp_show.proofs.items.items_in.Given as goal

-- the items so far, and then those that are left, are all items
abbrev pub invariant-loop-item : goal.invariant-loop-item
invariant-loop-item l = l.items.items ++ l.left.left ≡ item_views l.list

abbrev pub decreases-loop-item : goal.decreases-loop-item
decreases-loop-item l = length l.left.left
