use Rattle.std.proofs.Common.{◌≡◌, ◌+◌, ◌≤◌, [], take, drop}
use Rattle.rlp_write.specs.Streams.Closing.{closed_bytes, left_of}
use Rattle.rlp_write.proofs.Streams.Closings.{Closes}
use Rattle.rlp_write.proofs.closing.close_lists.Given as goal

abbrev pub invariant-loop-left : goal.invariant-loop-left
invariant-loop-left l =
    record {
      closes : Closes (closed_bytes l.fn.closing (take l.fn.end l.fn.buffer.items) [] l.fn.lists) l.left l.buffer.items l.from l.to l.lists;
      rest : drop l.left l.lists ≡ drop l.fn.closing l.fn.lists;
      lowest : left_of l.left l.from l.lists ≡ left_of l.fn.closing l.fn.end l.fn.lists;
      counted : l.fn.buffer.moved ≤ l.buffer.moved;
      moved : l.buffer.moved + l.from ≤ l.fn.buffer.moved + l.fn.end;
    }

abbrev pub decreases-loop-left : goal.decreases-loop-left
decreases-loop-left l = l.left
