use Rattle.std.proofs.Common.{◌≡◌, ◌++◌, length}
use Rattle.rlp_trie.specs.HexPrefix.{AreNibbles, bytes_of}
use Rattle.rlp_trie.proofs.hex_prefix.push_bytes.Given as goal

abbrev pub invariant-loop-rest : goal.invariant-loop-rest
invariant-loop-rest l = AreNibbles l.rest × (l.bytes.items ++ bytes_of l.rest ≡ l.initial.bytes.items ++ bytes_of l.initial.rest)

abbrev pub decreases-loop-rest : goal.decreases-loop-rest
decreases-loop-rest l = length l.rest
