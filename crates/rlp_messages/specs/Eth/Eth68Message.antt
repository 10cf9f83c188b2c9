-- The messages of eth/68.
use Rattle.std.proofs.Common.{inl, inr}
use Rattle.std.specs.Prelude.{◌⊎◌, refl}
use Rattle.rlp_messages.specs.{Eth.EthMessage.{EthBody, eth_bodies}, Eth.Receipts.receipts, Eth.Requests.with_request_id, Eth.Status.status68}
use Rattle.rlp_messages.specs.declared.eth.eth68_message.Eth68Message.{Eth68Message}
use Rattle.rlp_messages.specs.{declared.eth.receipts.Receipts.Receipts, declared.eth.requests.WithRequestId.WithRequestId, declared.eth.status.Status68.{Status68}}
use Rattle.rlp_messages.specs.declared.eth.eth68_message.Eth68Message.TheVariants as message
use Rattle.rlp_p2p.specs.Message.{Bodies, Table, and_enveloped, and_message}

-- the types of the bodies
abbrev pub Eth68Body : Type 0
Eth68Body = Status68 ⊎ (WithRequestId Receipts ⊎ EthBody)

-- The bodies with their numbers: Status (0x00) and Receipts (0x10) of eth/68, and the messages of both versions. A receipt stands inside 3 lists, in
-- [request-id, [[receipt₁, receipt₂, ...], ...]].
abbrev pub eth68_bodies : Bodies Eth68Body
eth68_bodies =
    and_message 0x00 refl status68 (
    and_enveloped 0x10 refl 3 (with_request_id receipts) eth_bodies)

-- the body of a message
abbrev pub eth68_body : Eth68Message → Eth68Body
eth68_body (message.Status m) = inl m
eth68_body (message.Receipts m) = inr (inl m)
eth68_body (message.NewBlockHashes m) = inr (inr (inl m))
eth68_body (message.Transactions m) = inr (inr (inr (inl m)))
eth68_body (message.GetBlockHeaders m) = inr (inr (inr (inr (inl m))))
eth68_body (message.BlockHeaders m) = inr (inr (inr (inr (inr (inl m)))))
eth68_body (message.GetBlockBodies m) = inr (inr (inr (inr (inr (inr (inl m))))))
eth68_body (message.BlockBodies m) = inr (inr (inr (inr (inr (inr (inr (inl m)))))))
eth68_body (message.NewBlock m) = inr (inr (inr (inr (inr (inr (inr (inr (inl m))))))))
eth68_body (message.NewPooledTransactionHashes m) = inr (inr (inr (inr (inr (inr (inr (inr (inr (inl m)))))))))
eth68_body (message.GetPooledTransactions m) = inr (inr (inr (inr (inr (inr (inr (inr (inr (inr (inl m))))))))))
eth68_body (message.PooledTransactions m) = inr (inr (inr (inr (inr (inr (inr (inr (inr (inr (inr (inl m)))))))))))
eth68_body (message.GetReceipts m) = inr (inr (inr (inr (inr (inr (inr (inr (inr (inr (inr (inr m)))))))))))

-- the messages of eth/68
abbrev pub eth68 : Table Eth68Message
eth68 = record { Body = Eth68Body; bodies = eth68_bodies; body = eth68_body }
