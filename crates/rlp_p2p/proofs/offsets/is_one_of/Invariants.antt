use Rattle.std.proofs.Common.{◌≡◌, false, take}
use Rattle.std.specs.List.{list_any}
use Rattle.rlp_p2p.specs.Offsets.{is_named}
use Rattle.rlp_p2p.proofs.offsets.is_one_of.Given as goal

-- none of the capabilities so far is the one
abbrev pub invariant-loop-other : goal.invariant-loop-other
invariant-loop-other l =
    list_any (λ p. is_named l.fn.protocol.name.now l.fn.protocol.version (record { name = p.name.now; version = p.version })) (take l.other-index l.fn.ours) ≡ false
