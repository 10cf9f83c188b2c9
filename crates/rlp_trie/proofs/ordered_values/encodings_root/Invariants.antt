use Rattle.std.proofs.Common.{◌≡◌, map, take}
use Rattle.rlp.specs.Format.Encoding.{encoding}
use Rattle.rlp_trie.specs.{BufferValues.buffer_bytes}
use Rattle.rlp_trie.proofs.ordered_values.encodings_root.Given as goal

abbrev pub invariant-loop-value : goal.invariant-loop-value
invariant-loop-value g l =
    map buffer_bytes l.buffers.items ≡ map (λ v. encoding (g.E.Encodable.item v)) (take l.value-index l.values)
