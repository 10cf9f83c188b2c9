-- The messages of eth/69.
use Rattle.std.proofs.Common.{inl, inr}
use Rattle.std.specs.Prelude.{◌⊎◌, refl}
use Rattle.rlp_messages.specs.{Eth.Announcements.block_range_update, Eth.EthMessage.{EthBody, eth_bodies}, Eth.Receipts.receipts69}
use Rattle.rlp_messages.specs.{Eth.Requests.with_request_id, Eth.Status.status69}
use Rattle.rlp_messages.specs.{declared.eth.announcements.BlockRangeUpdate.BlockRangeUpdate, declared.eth.eth69_message.Eth69Message.Eth69Message}
use Rattle.rlp_messages.specs.{declared.eth.receipts.Receipts69.Receipts69, declared.eth.requests.WithRequestId.WithRequestId, declared.eth.status.Status69.{Status69}}
use Rattle.rlp_messages.specs.declared.eth.eth69_message.Eth69Message.TheVariants as message
use Rattle.rlp_p2p.specs.Message.{Bodies, Table, and_message}

-- the types of the bodies
abbrev pub Eth69Body : Type 0
Eth69Body = Status69 ⊎ (WithRequestId Receipts69 ⊎ (BlockRangeUpdate ⊎ EthBody))

-- The bodies with their numbers: Status (0x00), Receipts (0x10) and BlockRangeUpdate (0x11) of EIP-7642, and the messages of both versions. The receipts of EIP-7642
-- are lists, and so no envelopes.
abbrev pub eth69_bodies : Bodies Eth69Body
eth69_bodies =
    and_message 0x00 refl status69 (
    and_message 0x10 refl (with_request_id receipts69) (
    and_message 0x11 refl block_range_update eth_bodies))

-- the body of a message
abbrev pub eth69_body : Eth69Message → Eth69Body
eth69_body (message.Status m) = inl m
eth69_body (message.Receipts m) = inr (inl m)
eth69_body (message.BlockRangeUpdate m) = inr (inr (inl m))
eth69_body (message.NewBlockHashes m) = inr (inr (inr (inl m)))
eth69_body (message.Transactions m) = inr (inr (inr (inr (inl m))))
eth69_body (message.GetBlockHeaders m) = inr (inr (inr (inr (inr (inl m)))))
eth69_body (message.BlockHeaders m) = inr (inr (inr (inr (inr (inr (inl m))))))
eth69_body (message.GetBlockBodies m) = inr (inr (inr (inr (inr (inr (inr (inl m)))))))
eth69_body (message.BlockBodies m) = inr (inr (inr (inr (inr (inr (inr (inr (inl m))))))))
eth69_body (message.NewBlock m) = inr (inr (inr (inr (inr (inr (inr (inr (inr (inl m)))))))))
eth69_body (message.NewPooledTransactionHashes m) = inr (inr (inr (inr (inr (inr (inr (inr (inr (inr (inl m))))))))))
eth69_body (message.GetPooledTransactions m) = inr (inr (inr (inr (inr (inr (inr (inr (inr (inr (inr (inl m)))))))))))
eth69_body (message.PooledTransactions m) = inr (inr (inr (inr (inr (inr (inr (inr (inr (inr (inr (inr (inl m))))))))))))
eth69_body (message.GetReceipts m) = inr (inr (inr (inr (inr (inr (inr (inr (inr (inr (inr (inr (inr m))))))))))))

-- the messages of eth/69
abbrev pub eth69 : Table Eth69Message
eth69 = record { Body = Eth69Body; bodies = eth69_bodies; body = eth69_body }
