use Rattle.std.proofs.Common.{refl}
use Rattle.rlp_p2p.proofs.BothEnds.{none_has}
use Rattle.rlp_p2p.specs.Offsets.{known_of, offered, supersedes}
use Rattle.rlp_p2p.proofs.offsets.is_superseded.Goals as goal

pub returns : goal.returns
returns c =
    none_has (supersedes (offered c.args.peer.now) c.args.protocol.now.name.now c.args.protocol.now.version) known_of c.args.ours.now c.args.ours.now
    c.loop-other.other-index refl c.loop-other-test.false c.loop-other.invariant
