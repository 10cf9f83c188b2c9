use Rattle.std.proofs.Common.{◌≤◌, ◌+◌, length}
use Rattle.rlp.specs.Views.View.{item_views}
use Rattle.rlp_examples.proofs.uses.drained.Given as goal

-- when an item is taken, at most one more header was read
abbrev pub invariant-loop : goal.invariant-loop
invariant-loop l = l.items.headers + length l.items.left ≤ length (item_views l.view) + 1

abbrev pub decreases-loop : goal.decreases-loop
decreases-loop l = length l.items.left
