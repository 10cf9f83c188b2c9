-- How blocks and their bodies are written and read.
use Rattle.std.specs.Vec.{vec_items}
use Rattle.rlp.specs.Codec.{Codec, field, list_type, optional, struct_of}
use Rattle.rlp_transactions.specs.Transaction.{any_transaction}
use Rattle.rlp_headers.specs.{Header.header, Withdrawal.withdrawals, declared.header.Header.Header}
use Rattle.rlp_blocks.specs.{declared.block.Block.Block, declared.block.Body.Body}

-- EIP-4895: rlp([header, transactions, ommers, withdrawals]), without the withdrawals before Shanghai
abbrev pub block : Codec Block
block = struct_of (
    field (λ (b : Block). b.header) header (
    field (λ (b : Block). b.transactions) (list_type vec_items any_transaction) (
    field (λ (b : Block). b.ommers) (list_type vec_items header) (
    optional (λ (b : Block). b.withdrawals) withdrawals))))

-- the protocol eth: [transactions, ommers, withdrawals], without the withdrawals before Shanghai
abbrev pub body : Codec Body
body = struct_of (
    field (λ (b : Body). b.transactions) (list_type vec_items any_transaction) (
    field (λ (b : Body). b.ommers) (list_type vec_items header) (
    optional (λ (b : Body). b.withdrawals) withdrawals)))

-- the block with this header and this body
abbrev pub block_of : Header → Body → Block
block_of h b = record { header = h; transactions = b.transactions; ommers = b.ommers; withdrawals = b.withdrawals }
