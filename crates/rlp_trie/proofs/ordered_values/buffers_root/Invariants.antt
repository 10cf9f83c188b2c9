use Rattle.std.proofs.Common.{◌≡◌, map, take}
use Rattle.rlp_trie.specs.{BufferValues.buffer_bytes, OrderedPairs.slice_bytes}
use Rattle.rlp_trie.proofs.ordered_values.buffers_root.Given as goal

abbrev pub invariant-loop-buffer : goal.invariant-loop-buffer
invariant-loop-buffer l = map slice_bytes l.values.items ≡ map buffer_bytes (take l.buffer-index l.buffers)
