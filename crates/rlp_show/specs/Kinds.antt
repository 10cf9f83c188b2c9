-- The kinds of records and of messages, by their names.
use Rattle.std.specs.Prelude.{ℕ, List, [], ◌∷◌, codes, bytes_eq, if◌then◌else◌, Option, Some, None}
use Rattle.rlp_show.specs.declared.kind.{Kind.Kind, MessageKind.MessageKind}
use Rattle.rlp_show.specs.declared.kind.Kind.TheVariants.{AccessList, Account, Authorization, Block, Body, Header, Message, Node, NodeRecord, Receipt, Transaction, Withdrawal}
use Rattle.rlp_show.specs.declared.kind.MessageKind.TheVariants.{BlockHeaders, Disconnect, GetBlockHeaders, Hello, NewBlockHashes, Ping, Pong, Status68, Status69, Transactions, BlockBodies, BlockRangeUpdate, GetBlockBodies, GetPooledTransactions, GetReceipts, NewBlock, NewPooledTransactionHashes, PooledTransactions, Receipts68, Receipts69}

-- the name of a kind of messages
abbrev pub message_name : MessageKind → List ℕ
message_name Hello = codes "hello"
message_name Disconnect = codes "disconnect"
message_name Ping = codes "ping"
message_name Pong = codes "pong"
message_name Status68 = codes "status68"
message_name Status69 = codes "status69"
message_name NewBlockHashes = codes "new_block_hashes"
message_name Transactions = codes "transactions"
message_name GetBlockHeaders = codes "get_block_headers"
message_name BlockHeaders = codes "block_headers"
message_name GetBlockBodies = codes "get_block_bodies"
message_name BlockBodies = codes "block_bodies"
message_name NewBlock = codes "new_block"
message_name NewPooledTransactionHashes = codes "new_pooled_transaction_hashes"
message_name GetPooledTransactions = codes "get_pooled_transactions"
message_name PooledTransactions = codes "pooled_transactions"
message_name GetReceipts = codes "get_receipts"
message_name Receipts68 = codes "receipts68"
message_name Receipts69 = codes "receipts69"
message_name BlockRangeUpdate = codes "block_range_update"

-- the kinds of messages
abbrev pub message_kinds : List MessageKind
message_kinds =
    Hello ∷ Disconnect ∷ Ping ∷ Pong ∷ Status68 ∷ Status69 ∷ NewBlockHashes ∷ Transactions ∷ GetBlockHeaders ∷ BlockHeaders ∷ GetBlockBodies ∷ BlockBodies ∷
    NewBlock ∷ NewPooledTransactionHashes ∷ GetPooledTransactions ∷ PooledTransactions ∷ GetReceipts ∷ Receipts68 ∷ Receipts69 ∷ BlockRangeUpdate ∷ []

-- the kind among these that has a name
abbrev pub named_in : {K : Type 0} → (K → List ℕ) → List K → List ℕ → Option K
named_in name_of [] name = None
named_in name_of (kind ∷ kinds) name = if bytes_eq name (name_of kind) then Some kind else named_in name_of kinds name

-- the kind of messages of a name
unfoldable pub message_named : List ℕ → Option MessageKind
message_named name = named_in message_name message_kinds name

-- the name of a kind
abbrev pub kind_name : Kind → List ℕ
kind_name AccessList = codes "access_list"
kind_name Account = codes "account"
kind_name Authorization = codes "authorization"
kind_name Block = codes "block"
kind_name Body = codes "body"
kind_name Header = codes "header"
kind_name Node = codes "node"
kind_name Receipt = codes "receipt"
kind_name NodeRecord = codes "record"
kind_name Transaction = codes "transaction"
kind_name Withdrawal = codes "withdrawal"
kind_name (Message kind) = message_name kind

-- the kinds of other records
abbrev pub record_kinds : List Kind
record_kinds = AccessList ∷ Account ∷ Authorization ∷ Block ∷ Body ∷ Header ∷ Node ∷ Receipt ∷ NodeRecord ∷ Transaction ∷ Withdrawal ∷ []

-- the kind of a name, by the kind of messages of this name
abbrev pub message_or_record : List ℕ → Option MessageKind → Option Kind
message_or_record name (Some kind) = Some (Message kind)
message_or_record name None = named_in kind_name record_kinds name

-- the kind of a name
unfoldable pub kind_named : List ℕ → Option Kind
kind_named name = message_or_record name (message_named name)
