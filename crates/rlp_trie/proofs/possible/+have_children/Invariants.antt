use Rattle.std.proofs.Common.{length}
use Rattle.rlp_trie.proofs.possible.+have_children.Given as goal

abbrev pub decreases-have_children : goal.decreases-have_children
decreases-have_children l = length l.places.now
