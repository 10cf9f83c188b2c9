-- The messages that eth/68 and eth/69 have in common.
use Rattle.std.specs.Prelude.{◌⊎◌, refl}
use Rattle.rlp_messages.specs.Eth.Announcements.{new_block, new_block_hashes, new_pooled_transaction_hashes, transactions}
use Rattle.rlp_messages.specs.Eth.Requests.{block_bodies, block_headers, get_block_bodies, get_block_headers, get_pooled_transactions, get_receipts, pooled_transactions, with_request_id}
use Rattle.rlp_messages.specs.{declared.eth.announcements.NewBlock.NewBlock, declared.eth.requests.WithRequestId.{WithRequestId}}
use Rattle.rlp_messages.specs.{declared.eth.announcements.NewBlockHashes.{NewBlockHashes}, declared.eth.announcements.NewPooledTransactionHashes.{NewPooledTransactionHashes}}
use Rattle.rlp_messages.specs.{declared.eth.announcements.Transactions.Transactions, declared.eth.requests.BlockBodies.BlockBodies}
use Rattle.rlp_messages.specs.{declared.eth.requests.BlockHeaders.BlockHeaders, declared.eth.requests.GetBlockBodies.GetBlockBodies}
use Rattle.rlp_messages.specs.{declared.eth.requests.GetBlockHeaders.GetBlockHeaders, declared.eth.requests.GetPooledTransactions.GetPooledTransactions}
use Rattle.rlp_messages.specs.{declared.eth.requests.GetReceipts.GetReceipts, declared.eth.requests.PooledTransactions.PooledTransactions}
use Rattle.rlp_p2p.specs.Message.{Bodies, and_enveloped, and_message, last_message}

-- the types of their bodies
abbrev pub EthBody : Type 0
EthBody =
    NewBlockHashes ⊎ (
    Transactions ⊎ (
    WithRequestId GetBlockHeaders ⊎ (
    WithRequestId BlockHeaders ⊎ (
    WithRequestId GetBlockBodies ⊎ (
    WithRequestId BlockBodies ⊎ (
    NewBlock ⊎ (
    NewPooledTransactionHashes ⊎ (
    WithRequestId GetPooledTransactions ⊎ (
    WithRequestId PooledTransactions ⊎ WithRequestId GetReceipts)))))))))

-- Their bodies with the numbers within the capability: Status (0x00) and Receipts (0x10) aren't here, since each version has its own. The second number of a row is
-- the number of lists that a transaction stands inside of: 1 in [tx₁, tx₂, ...] of Transactions, 2 in [request-id, [tx₁, tx₂, ...]] of PooledTransactions, 3 in
-- [[header, [tx₁, tx₂, ...], ..], td] of NewBlock, and 4 in [request-id, [[[tx₁, tx₂, ...], ..], ..]] of BlockBodies.
abbrev pub eth_bodies : Bodies EthBody
eth_bodies =
    and_message 0x01 refl new_block_hashes (
    and_enveloped 0x02 refl 1 transactions (
    and_message 0x03 refl (with_request_id get_block_headers) (
    and_message 0x04 refl (with_request_id block_headers) (
    and_message 0x05 refl (with_request_id get_block_bodies) (
    and_enveloped 0x06 refl 4 (with_request_id block_bodies) (
    and_enveloped 0x07 refl 3 new_block (
    and_message 0x08 refl new_pooled_transaction_hashes (
    and_message 0x09 refl (with_request_id get_pooled_transactions) (
    and_enveloped 0x0a refl 2 (with_request_id pooled_transactions) (
    last_message 0x0f refl (with_request_id get_receipts)))))))))))
