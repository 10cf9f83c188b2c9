use Rattle.rlp_p2p.proofs.BothEnds.{offsets_agree}
use Rattle.rlp_p2p.proofs.laws.both_ends_agree.Goals as goal

pub returns : goal.returns
returns c = offsets_agree
