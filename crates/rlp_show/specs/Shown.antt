-- What the bytes of a record give, by its kind: a value to show, or a fault and the places that lead to it.
use Rattle.std.specs.Prelude.{ℕ, ◌≡◌, Err, List, Ok, Result}
use Rattle.rlp.specs.{Codec.Codec, Views.View.{View, strict_view_of}}
use Rattle.rlp_reading.specs.Form.{Answer, Fault, Reading, here, map_answer}
use Rattle.rlp_records.specs.{Eip2718.typed_alone, KnownOrOther.any_alone}
use Rattle.rlp_transactions.specs.{AccessListTransaction.access_list, SetCodeTransaction.signed_authorization, Transaction.transaction_types}
use Rattle.rlp_transactions.specs.UnsignedTransaction.{unsigned_transaction, unsigned_types}
use Rattle.rlp_headers.specs.{Account.account, Header.header, TypedReceipt.receipt_types, Withdrawal.withdrawal}
use Rattle.rlp_trie.specs.TrieNodeLaws.{trie_node}
use Rattle.rlp_node_record.specs.NodeLaws.{node_record}
use Rattle.rlp_blocks.specs.Block.{block, body}
use Rattle.rlp_messages.specs.Eth.Announcements.{block_range_update, new_block, new_block_hashes, new_pooled_transaction_hashes, transactions}
use Rattle.rlp_messages.specs.Eth.Receipts.{receipts, receipts69}
use Rattle.rlp_messages.specs.Eth.Requests.{block_bodies, block_headers, get_block_bodies, get_block_headers, get_pooled_transactions, get_receipts, pooled_transactions, with_request_id_reading}
use Rattle.rlp_messages.specs.Eth.Status.{status68, status69}
use Rattle.rlp_p2p.specs.{Disconnect.disconnect, Hello.hello, P2pMessage.{ping, pong}}
use Rattle.rlp_show.specs.{Blocks.{block_display, body_fields_display, header_display}, Display.{a_list, a_string, an_object, end}}
use Rattle.rlp_show.specs.{ItemDisplays.{node_display, node_fields_display}, Value.Display}
use Rattle.rlp_show.specs.Messages.{disconnect_display, get_block_headers_display, hello_display, new_block_display, new_block_hash_display, new_pooled_transaction_hashes_display, range_display, receipt69_display, status68_display, status69_display, with_request_id_display}
use Rattle.rlp_show.specs.{Records.{account_display, any_receipt_display, withdrawal_display}, Value.Value, declared.kind.Kind.Kind, declared.kind.MessageKind.{MessageKind}}
use Rattle.rlp_show.specs.Transactions.{access_list_display, any_transaction_display, pooled_transaction_display, signed_authorization_display, unsigned_display}
use Rattle.rlp_show.specs.declared.kind.Kind.TheVariants.{AccessList, Account, Authorization, Block, Body, Header, Message, Node, NodeRecord, Receipt, Transaction, Withdrawal}
use Rattle.rlp_show.specs.declared.kind.MessageKind.TheVariants as message

-- what bytes give
abbrev pub Shown : Type 0
Shown = Answer Value Fault

-- what the bytes of a whole record give, by what a view gives and how the value is shown
abbrev pub shown_as : {M : Type 0} → (View → Answer M Fault) → (M → Value) → List ℕ → Shown
shown_as read shown b = map_answer shown (read (strict_view_of b))

-- values of a codec, as they are displayed
abbrev pub whole : {A : Type 0} (c : Codec A) → Display c.reading.M → List ℕ → Shown
whole c d = shown_as c.reading.read d.shown

-- what the bytes of a message with the number of a request give
abbrev pub numbered : {A : Type 0} (c : Codec A) → Display c.reading.M → List ℕ → Shown
numbered c d = shown_as (with_request_id_reading c.reading).read (λ m. (with_request_id_display d).shown (m.0, m.1.0))

-- the unsigned transaction, if bytes give one, or else the signed transaction or the fault
abbrev pub unsigned_or : Shown → Result unsigned_transaction.reading.M Fault → Shown
unsigned_or other (Ok t) = here (Ok (unsigned_display.shown t))
unsigned_or other (Err e) = other

-- what bytes that aren't an unsigned transaction give
abbrev pub signed_shown : List ℕ → Shown
signed_shown b = map_answer any_transaction_display.shown (any_alone transaction_types b)

abbrev pub transaction_shown : List ℕ → Shown
transaction_shown b = unsigned_or (signed_shown b) (typed_alone unsigned_types b).result

abbrev pub receipt_shown : List ℕ → Shown
receipt_shown b = map_answer any_receipt_display.shown (any_alone receipt_types b)

-- what the bytes of a message give
abbrev pub message_shown : MessageKind → List ℕ → Shown
message_shown message.Hello = whole hello hello_display
message_shown message.Disconnect = whole disconnect disconnect_display
message_shown message.Ping = whole ping (an_object end)
message_shown message.Pong = whole pong (an_object end)
message_shown message.Status68 = whole status68 status68_display
message_shown message.Status69 = whole status69 status69_display
message_shown message.NewBlockHashes = whole new_block_hashes (a_list new_block_hash_display)
message_shown message.Transactions = whole transactions (a_list any_transaction_display)
message_shown message.GetBlockHeaders = numbered get_block_headers get_block_headers_display
message_shown message.BlockHeaders = numbered block_headers (a_list header_display)
message_shown message.GetBlockBodies = numbered get_block_bodies (a_list a_string)
message_shown message.BlockBodies = numbered block_bodies (a_list (an_object body_fields_display))
message_shown message.NewBlock = whole new_block new_block_display
message_shown message.NewPooledTransactionHashes = whole new_pooled_transaction_hashes new_pooled_transaction_hashes_display
message_shown message.GetPooledTransactions = numbered get_pooled_transactions (a_list a_string)
message_shown message.PooledTransactions = numbered pooled_transactions (a_list pooled_transaction_display)
message_shown message.GetReceipts = numbered get_receipts (a_list a_string)
message_shown message.Receipts68 = numbered receipts (a_list (a_list any_receipt_display))
message_shown message.Receipts69 = numbered receipts69 (a_list (a_list receipt69_display))
message_shown message.BlockRangeUpdate = whole block_range_update (an_object range_display)

-- what the bytes of a record give
abbrev pub kind_shown : Kind → List ℕ → Shown
kind_shown AccessList = whole access_list access_list_display
kind_shown Account = whole account account_display
kind_shown Authorization = whole signed_authorization signed_authorization_display
kind_shown Block = whole block block_display
kind_shown Body = whole body (an_object body_fields_display)
kind_shown Header = whole header header_display
kind_shown Node = whole trie_node node_display
kind_shown Receipt = receipt_shown
kind_shown NodeRecord = whole node_record node_fields_display
kind_shown Transaction = transaction_shown
kind_shown Withdrawal = whole withdrawal withdrawal_display
kind_shown (Message kind) = message_shown kind

-- records of the kind are read as the values of a type and shown as this
abbrev pub ShowsAs : {A : Type 0} → Kind → (r : Reading A) → (r.M → Value) → Type 0
ShowsAs kind r shown = (b : List ℕ) → kind_shown kind b ≡ shown_as r.read shown b
