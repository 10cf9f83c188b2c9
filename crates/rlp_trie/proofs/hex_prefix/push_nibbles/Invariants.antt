use Rattle.std.proofs.Common.{◌≡◌, ◌++◌, length}
use Rattle.rlp_trie.specs.HexPrefix.{nibbles_of}
use Rattle.rlp_trie.proofs.hex_prefix.push_nibbles.Given as goal

abbrev pub invariant-loop-rest : goal.invariant-loop-rest
invariant-loop-rest l = l.nibbles.items ++ nibbles_of l.rest ≡ l.initial.nibbles.items ++ nibbles_of l.initial.rest

abbrev pub decreases-loop-rest : goal.decreases-loop-rest
decreases-loop-rest l = length l.rest
