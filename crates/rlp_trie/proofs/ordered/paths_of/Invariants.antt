use Rattle.std.proofs.Common.{◌≡◌, length, map}
use Rattle.std.specs.Vec.{vec_items}
use Rattle.rlp_trie.specs.Ordered.{in_turn, place_path}
use Rattle.rlp_trie.proofs.ordered.paths_of.Given as goal

abbrev pub invariant-loop-place : goal.invariant-loop-place
invariant-loop-place l = (length l.paths.items ≡ l.place) × (map vec_items l.paths.items ≡ in_turn place_path 0 l.place)
