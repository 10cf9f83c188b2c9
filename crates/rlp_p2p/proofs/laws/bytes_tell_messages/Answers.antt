use Rattle.rlp_p2p.proofs.Messages.{message_told}
use Rattle.rlp_p2p.proofs.laws.bytes_tell_messages.Goals as goal

pub returns : goal.returns
returns g c = message_told g.M.Message.table
