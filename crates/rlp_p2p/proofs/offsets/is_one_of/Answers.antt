use Rattle.rlp_p2p.proofs.BothEnds.{none_of_ours}
use Rattle.rlp_p2p.specs.Offsets.{is_named, known_of}
use Rattle.rlp_p2p.proofs.offsets.is_one_of.Goals as goal

pub returns : goal.returns
returns c =
    none_of_ours (is_named c.args.protocol.now.name.now c.args.protocol.now.version) known_of c.args.ours.now c.loop-other.other-index
    c.loop-other-test.false c.loop-other.invariant
