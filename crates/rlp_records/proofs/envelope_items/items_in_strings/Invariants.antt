use Rattle.std.proofs.Common.{length}
use Rattle.rlp_records.proofs.Scanning.{IsScanning}
use Rattle.rlp_records.proofs.envelope_items.items_in_strings.Given as goal

abbrev pub invariant-loop-framed : goal.invariant-loop-framed
invariant-loop-framed l = IsScanning 0 l.bytes l.rest l.count

abbrev pub decreases-loop-framed : goal.decreases-loop-framed
decreases-loop-framed l = length l.rest
