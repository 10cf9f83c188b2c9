use Rattle.rlp_p2p.proofs.BothEnds.{none_has}
use Rattle.rlp_p2p.specs.Offsets.{is_named, named_of}
use Rattle.rlp_p2p.proofs.offsets.speaks.Goals as goal

pub returns : goal.returns
returns c =
    none_has (is_named c.args.protocol.now.name.now c.args.protocol.now.version) named_of c.args.peer.now.capabilities.items c.deref-capability-items.result.now
    c.loop-capability.capability-index c.deref-capability-items.ensures.value c.loop-capability-test.false c.loop-capability.invariant
