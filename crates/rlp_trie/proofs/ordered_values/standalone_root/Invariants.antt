use Rattle.std.proofs.Common.{◌≡◌, map, take}
use Rattle.rlp_records.specs.{Alone.bytes_alone, KnownOrOther.with_others}
use Rattle.rlp_trie.specs.{BufferValues.buffer_bytes}
use Rattle.rlp_trie.proofs.ordered_values.standalone_root.Given as goal

abbrev pub invariant-loop-value : goal.invariant-loop-value
invariant-loop-value g l =
    map buffer_bytes l.buffers.items ≡ map (λ v. bytes_alone ((with_others g.T.Eip2718.types).item v)) (take l.value-index l.values)
