use Rattle.rlp_state.proofs.StateLemmas.{slots_agree}
use Rattle.rlp_state.proofs.laws.slots_agree.Goals as goal

pub returns : goal.returns
returns c = slots_agree
