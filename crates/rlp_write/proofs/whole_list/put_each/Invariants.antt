use Rattle.std.proofs.Common.{◌≡◌, ◌++◌, map, take}
use Rattle.std.specs.List.{All}
use Rattle.rlp_format.specs.Format.Encoding.{join}
use Rattle.rlp_write.specs.Streams.Stream.{IsFinished}
use Rattle.rlp_write.proofs.whole_list.put_each.Given as goal

abbrev pub invariant-loop-value : goal.invariant-loop-value
invariant-loop-value g l =
    record {
      fits : All g.E.Encodable.fits (take l.value-index l.values);
      front : l.s.state.front ≡ l.fn.s.state.front;
      top : l.s.state.stack.inner ≡ l.fn.s.state.stack.inner ++ join (map g.E.Encodable.item (take l.value-index l.values));
      finished : IsFinished l.s.state;
    }
