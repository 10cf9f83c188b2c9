use Rattle.std.proofs.Common.{◌≡◌, ◌≤◌, ◌++◌, ◌-◌, drop, length, take}
use Rattle.rlp_trie.specs.Ordered.{common}
use Rattle.rlp_trie.proofs.ordered.common.Given as goal

abbrev pub invariant-loop-count : goal.invariant-loop-count
invariant-loop-count l =
    (l.count ≤ length l.path) × (l.count ≤ length l.other)
    × (common l.path l.other ≡ take l.count l.path ++ common (drop l.count l.path) (drop l.count l.other))

abbrev pub decreases-loop-count : goal.decreases-loop-count
decreases-loop-count l = length l.path - l.count
