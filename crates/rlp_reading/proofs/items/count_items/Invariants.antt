use Rattle.std.proofs.Common.{◌≡◌, ◌≤◌, ◌+◌, length}
use Rattle.rlp_reading.specs.Format.Framing.{split}
use Rattle.rlp_reading.proofs.items.count_items.Given as goal

-- the number of counted items and the number of items of the rest add up to that of the payload; no more items were counted than bytes taken
abbrev pub invariant-loop-count : goal.invariant-loop-count
invariant-loop-count l = record {
  total : l.count + length (split l.items.rest) ≡ length (split l.fn.payload);
  few : l.count + length l.items.rest ≤ length l.fn.payload;
}

abbrev pub decreases-loop-count : goal.decreases-loop-count
decreases-loop-count l = length l.items.rest
