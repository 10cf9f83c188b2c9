use Rattle.std.proofs.Common.{length}
use Rattle.rlp_records.proofs.Scanning.{IsScanning}
use Rattle.rlp_records.proofs.envelope_items.+items_in_envelopes.Given as goal

abbrev pub decreases-items_in_envelopes : goal.decreases-items_in_envelopes
decreases-items_in_envelopes l = l.depth

abbrev pub invariant-loop-framed : goal.invariant-loop-framed
invariant-loop-framed l = IsScanning l.depth l.bytes l.rest l.count

abbrev pub decreases-loop-framed : goal.decreases-loop-framed
decreases-loop-framed l = length l.rest
