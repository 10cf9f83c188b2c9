use Rattle.std.proofs.Common.{◌+◌, ◌-◌}
use Rattle.rlp_reading.specs.Format.Skipping.{IsAfterItems}
use Rattle.rlp_reading.proofs.skipping.skip_items.Given as goal

-- the first items were skipped
abbrev pub invariant-loop-skipped : goal.invariant-loop-skipped
invariant-loop-skipped l = IsAfterItems l.fn.bytes (l.fn.count + l._skipped - l.left) l.rest
