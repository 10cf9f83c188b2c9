use Rattle.std.proofs.Common.{◌-◌, ◌≤◌}
use Rattle.rlp_reading.specs.Format.Skipping.{IsAfterItems}
use Rattle.rlp_reading.proofs.skipping.skip_alike.Given as goal

-- all but the items that are left were skipped
abbrev pub invariant-loop-left : goal.invariant-loop-left
invariant-loop-left l = record {
  few : l.left ≤ l.fn.count;
  after : IsAfterItems l.fn.bytes (l.fn.count - l.left) l.rest;
}

abbrev pub decreases-loop-left : goal.decreases-loop-left
decreases-loop-left l = l.left
