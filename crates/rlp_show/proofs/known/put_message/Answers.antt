use Rattle.std.proofs.Common.{refl}
use Rattle.rlp_show.specs.{Blocks.{body_fields_display, header_display}, Display.{a_list, a_string, an_object}}
use Rattle.rlp_show.specs.Messages.{get_block_headers_display, receipt69_display, with_request_id_display}
use Rattle.rlp_show.specs.{Records.any_receipt_display, Transactions.any_transaction_display, Transactions.pooled_transaction_display}
use Rattle.rlp_show.proofs.known.put_message.Goals as goal

pub returns-in-Transactions : goal.returns-in-Transactions
returns-in-Transactions c =
    rw c.in-Transactions.is (c.put_record-in-Transactions.ensures (a_list any_transaction_display).shown (λ x. refl))

pub returns-in-GetBlockHeaders : goal.returns-in-GetBlockHeaders
returns-in-GetBlockHeaders c =
    rw c.in-GetBlockHeaders.is (c.put_record-in-GetBlockHeaders.ensures (λ m. (with_request_id_display get_block_headers_display).shown (m.0, m.1.0)) (λ x. refl))

pub returns-in-BlockHeaders : goal.returns-in-BlockHeaders
returns-in-BlockHeaders c =
    rw c.in-BlockHeaders.is (c.put_record-in-BlockHeaders.ensures (λ m. (with_request_id_display (a_list header_display)).shown (m.0, m.1.0)) (λ x. refl))

pub returns-in-GetBlockBodies : goal.returns-in-GetBlockBodies
returns-in-GetBlockBodies c =
    rw c.in-GetBlockBodies.is (c.put_record-in-GetBlockBodies.ensures (λ m. (with_request_id_display (a_list a_string)).shown (m.0, m.1.0)) (λ x. refl))

pub returns-in-GetPooledTransactions : goal.returns-in-GetPooledTransactions
returns-in-GetPooledTransactions c =
    rw c.in-GetPooledTransactions.is (c.put_record-in-GetPooledTransactions.ensures (λ m. (with_request_id_display (a_list a_string)).shown (m.0, m.1.0)) (λ x. refl))

pub returns-in-GetReceipts : goal.returns-in-GetReceipts
returns-in-GetReceipts c =
    rw c.in-GetReceipts.is (c.put_record-in-GetReceipts.ensures (λ m. (with_request_id_display (a_list a_string)).shown (m.0, m.1.0)) (λ x. refl))

pub returns-in-BlockBodies : goal.returns-in-BlockBodies
returns-in-BlockBodies c =
    rw c.in-BlockBodies.is (c.put_record-in-BlockBodies.ensures (λ m. (with_request_id_display (a_list (an_object body_fields_display))).shown (m.0, m.1.0)) (λ x. refl))

pub returns-in-PooledTransactions : goal.returns-in-PooledTransactions
returns-in-PooledTransactions c =
    rw c.in-PooledTransactions.is (c.put_record-in-PooledTransactions.ensures (λ m. (with_request_id_display (a_list pooled_transaction_display)).shown (m.0, m.1.0)) (λ x. refl))

pub returns-in-Receipts68 : goal.returns-in-Receipts68
returns-in-Receipts68 c =
    rw c.in-Receipts68.is (c.put_record-in-Receipts68.ensures (λ m. (with_request_id_display (a_list (a_list any_receipt_display))).shown (m.0, m.1.0)) (λ x. refl))

pub returns-in-Receipts69 : goal.returns-in-Receipts69
returns-in-Receipts69 c =
    rw c.in-Receipts69.is (c.put_record-in-Receipts69.ensures (λ m. (with_request_id_display (a_list (a_list receipt69_display))).shown (m.0, m.1.0)) (λ x. refl))
