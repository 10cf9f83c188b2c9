use Rattle.rlp_messages.proofs.eth.eth68_message.Eth68MessageMessage.append_body.Goals as goal

pub returns-in-NewBlock-clause-ok : goal.returns-in-NewBlock-clause-ok
returns-in-NewBlock-clause-ok c = rw c.in-NewBlock.is c.rlp_append-in-NewBlock.ensures.ok
