use Rattle.std.proofs.Common.{◌≡◌, false, take}
use Rattle.std.specs.List.{list_any}
use Rattle.rlp_p2p.specs.Offsets.{known_of, offered, supersedes}
use Rattle.rlp_p2p.proofs.offsets.is_superseded.Given as goal

-- none of the capabilities so far is one with a higher version
abbrev pub invariant-loop-other : goal.invariant-loop-other
invariant-loop-other l =
    list_any (λ p. supersedes (offered l.fn.peer) l.fn.protocol.name.now l.fn.protocol.version (known_of p)) (take l.other-index l.fn.ours) ≡ false
