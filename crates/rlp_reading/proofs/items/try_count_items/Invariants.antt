use Rattle.std.proofs.Common.{◌≡◌, ◌≤◌, ◌+◌, length}
use Rattle.rlp_reading.specs.Format.Framing.{split, after_items}
use Rattle.rlp_reading.proofs.items.try_count_items.Given as goal

-- the same bytes follow the items of the rest, which are the items that weren't counted
abbrev pub invariant-loop-items : goal.invariant-loop-items
invariant-loop-items l = record {
  follows : after_items l.fn.payload ≡ after_items l.items.rest;
  total : l.count + length (split l.items.rest) ≡ length (split l.fn.payload);
  few : l.count + length l.items.rest ≤ length l.fn.payload;
}

abbrev pub decreases-loop-items : goal.decreases-loop-items
decreases-loop-items l = length l.items.rest
