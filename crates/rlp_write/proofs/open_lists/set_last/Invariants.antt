use Rattle.std.proofs.Common.{◌≡◌, length, reverse}
use Rattle.rlp_write.specs.Streams.Placeholders.{with_awaits}
use Rattle.rlp_write.proofs.open_lists.set_last.Given as goal

abbrev pub invariant-loop-inside : goal.invariant-loop-inside
invariant-loop-inside l =
    record {
      lists : reverse l.lists.items ≡ with_awaits l.inside l.fn.awaits (reverse l.fn.lists.items);
      len : length l.lists.items ≡ length l.fn.lists.items;
    }
