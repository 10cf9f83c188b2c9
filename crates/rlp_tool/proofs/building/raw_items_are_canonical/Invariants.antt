use Rattle.std.proofs.Common.{◌↔◌}
use Rattle.rlp_tool.specs.RawItems.{AreRawItems}
use Rattle.rlp_tool.proofs.building.raw_items_are_canonical.Given as goal

-- all bytes are the announced number of items if and only if the rest is the number of items that are awaited
abbrev pub invariant-loop-rest : goal.invariant-loop-rest
invariant-loop-rest l = AreRawItems l.fn.bytes l.fn.item_count ↔ AreRawItems l.rest l.awaited

abbrev pub decreases-loop-rest : goal.decreases-loop-rest
decreases-loop-rest l = l.awaited
