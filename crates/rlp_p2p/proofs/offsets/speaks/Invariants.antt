use Rattle.std.proofs.Common.{◌≡◌, false, take}
use Rattle.std.specs.List.{list_any}
use Rattle.rlp_p2p.specs.Offsets.{is_named, named_of}
use Rattle.rlp_p2p.proofs.offsets.speaks.Given as goal

-- none of the capabilities so far is the one
abbrev pub invariant-loop-capability : goal.invariant-loop-capability
invariant-loop-capability l =
    list_any (λ c. is_named l.fn.protocol.name.now l.fn.protocol.version (named_of c)) (take l.capability-index l.capability-items) ≡ false
