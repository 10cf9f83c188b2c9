use Rattle.std.proofs.Common.{◌≡◌, ◌+◌, ◌*◌, ◌≤◌, map, take}
use Rattle.std.specs.Prelude.{sum_by}
use Rattle.rlp_p2p.specs.Offsets.{ids_before, known_of, offered}
use Rattle.rlp_p2p.proofs.offsets.first_id.Given as goal

-- the ids of the capabilities so far
abbrev pub invariant-loop-other : goal.invariant-loop-other
invariant-loop-other l =
    (l.next ≡ 0x10 + sum_by (λ p. ids_before (map known_of l.fn.ours) (offered l.fn.peer) l.fn.name (known_of p)) (take l.other-index l.fn.ours))
    × (l.next ≤ 0x10 + 0xff * l.other-index)
