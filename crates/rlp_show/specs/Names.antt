-- The names of the parts of records, by the path to a part.
use Rattle.std.specs.Prelude.{ℕ, Bool, true, false, if◌then◌else◌, ◌==◌, ◌-◌, ◌/◌, ◌%◌, nat_lt, List, [], ◌∷◌, drop, map, slice_get, slice_index_or, Option, Some, None}
use Rattle.std.specs.Result.{result_unwrap_or}
use Rattle.rlp.specs.{Views.View.{View, item_at, item_count, strict_view_of, view_string}, Format.Framing.begins_as_list}
use Rattle.rlp_show.specs.{Value.inside, Value.item_name, declared.kind.Kind.Kind, declared.names.Part.Part, declared.names.Record.Record}
use Rattle.rlp_trie.specs.HexPrefix.{is_leaf_path}
use Rattle.rlp_show.specs.declared.kind.Kind.TheVariants as kind
use Rattle.rlp_show.specs.declared.kind.MessageKind.TheVariants as message
use Rattle.rlp_show.specs.declared.names.Part.TheVariants as part
use Rattle.rlp_show.specs.declared.names.Record.TheVariants as named
use Rattle.rlp_show.specs.declared.names.TheConstants as table

-- a field: its name, and what it is
abbrev pub Field : Type 0
Field = List ℕ × Part

-- the fields of a table
abbrev pub fields_in : List (record { now : List ℕ } × Part) → List Field
fields_in fs = map (λ f. (f.0.now, f.1)) fs

-- the fields of a record, in order
abbrev pub fields : Record → List Field
fields (named.Kind kind.Account) = fields_in table.ACCOUNT.now
fields (named.Kind kind.Authorization) = fields_in table.AUTHORIZATION.now
fields (named.Kind kind.Block) = fields_in table.BLOCK.now
fields (named.Kind kind.Body) = fields_in table.BODY.now
fields (named.Kind kind.Header) = fields_in table.HEADER.now
fields (named.Kind kind.NodeRecord) = fields_in table.NODE_RECORD.now
fields (named.Kind kind.Withdrawal) = fields_in table.WITHDRAWAL.now
fields (named.Kind (kind.Message message.Hello)) = fields_in table.HELLO.now
fields (named.Kind (kind.Message message.Disconnect)) = fields_in table.DISCONNECT.now
fields (named.Kind (kind.Message message.Status68)) = fields_in table.STATUS68.now
fields (named.Kind (kind.Message message.Status69)) = fields_in table.STATUS69.now
fields (named.Kind (kind.Message message.GetBlockHeaders)) = fields_in table.GET_BLOCK_HEADERS.now
fields (named.Kind (kind.Message message.BlockHeaders)) = fields_in table.BLOCK_HEADERS.now
fields (named.Kind (kind.Message message.GetBlockBodies)) = fields_in table.GET_HASHED.now
fields (named.Kind (kind.Message message.BlockBodies)) = fields_in table.BLOCK_BODIES.now
fields (named.Kind (kind.Message message.NewBlock)) = fields_in table.NEW_BLOCK.now
fields (named.Kind (kind.Message message.NewPooledTransactionHashes)) = fields_in table.NEW_POOLED_HASHES.now
fields (named.Kind (kind.Message message.GetPooledTransactions)) = fields_in table.GET_HASHED.now
fields (named.Kind (kind.Message message.PooledTransactions)) = fields_in table.POOLED_TRANSACTIONS.now
fields (named.Kind (kind.Message message.GetReceipts)) = fields_in table.GET_HASHED.now
fields (named.Kind (kind.Message message.Receipts68)) = fields_in table.RECEIPTS68.now
fields (named.Kind (kind.Message message.Receipts69)) = fields_in table.RECEIPTS69.now
fields (named.Kind (kind.Message message.BlockRangeUpdate)) = fields_in table.BLOCK_RANGE.now
fields named.AccessListItem = fields_in table.ACCESS_LIST_ITEM.now
fields named.Branch = fields_in table.BRANCH.now
fields named.Capability = fields_in table.CAPABILITY.now
fields named.Extension = fields_in table.EXTENSION.now
fields named.ForkId = fields_in table.FORK_ID.now
fields named.HeadersAsked = fields_in table.HEADERS_ASKED.now
fields named.Leaf = fields_in table.LEAF.now
fields named.Log = fields_in table.LOG.now
fields named.NewBlockHash = fields_in table.NEW_BLOCK_HASH.now
fields named.NodePair = fields_in table.NODE_PAIR.now
fields named.Receipt69 = fields_in table.RECEIPT69.now
fields named.ReceiptPayload = fields_in table.RECEIPT.now
fields named.Legacy = fields_in table.LEGACY.now
fields named.AccessList = fields_in table.ACCESS_LIST.now
fields named.FeeMarket = fields_in table.FEE_MARKET.now
fields named.Blob = fields_in table.BLOB.now
fields named.SetCode = fields_in table.SET_CODE.now
fields named.WithProofs = fields_in table.WITH_PROOFS.now
fields named.WithCellProofs = fields_in table.WITH_CELL_PROOFS.now
fields _ = []

-- what has the parts of records of a kind
abbrev pub kind_part : Kind → Part
kind_part kind.AccessList = part.List named.AccessListItem
kind_part (kind.Message message.NewBlockHashes) = part.List named.NewBlockHash
kind_part (kind.Message message.Transactions) = part.List (named.Kind kind.Transaction)
kind_part k = part.One (named.Kind k)

-- whether a part is a list whose items have no names of their own
abbrev pub is_list : Part → Bool
is_list (part.List r) = true
is_list (part.Lists r) = true
is_list _ = false

-- ---- the name of a part, each step with what it leads to

-- a field in a record of this name, if the record has the field
abbrev pub named_by : Option Field → List ℕ → Part × List ℕ
named_by None name = (part.One named.Other, name)
named_by (Some field) name = (field.1, inside name field.0)

-- the field at a place
abbrev pub in_field : Record → ℕ → List ℕ → Part × List ℕ
in_field r i name = named_by (slice_get (fields r) i) name

-- an item of a list of this name
abbrev pub in_list : Part → ℕ → List ℕ → Part × List ℕ
in_list (part.One r) i name = (part.One named.Other, name)
in_list (part.List r) i name = (part.One r, item_name name i)
in_list (part.Lists r) i name = (part.List r, item_name name i)
in_list part.Pairs i name = in_field named.NodePair (i % 2) (item_name name (i / 2))

-- The field that item i of a record is in, and its place in a field of many items: the first 16 items of a branch are one field, and so are the last items of some
-- other records.
abbrev pub field_of : Record → ℕ → ℕ × Option ℕ
field_of named.Branch i = if nat_lt i 16 then (0, Some i) else (i - 15, None)
field_of (named.Kind (kind.Message message.Hello)) i = if nat_lt i 5 then (i, None) else (5, Some (i - 5))
field_of (named.Kind kind.NodeRecord) i = if nat_lt i 2 then (i, None) else (2, Some (i - 2))
field_of _ i = (i, None)

-- a field, or an item in it
abbrev pub in_record : Part × List ℕ → Option ℕ → Part × List ℕ
in_record field None = field
in_record field (Some i) = in_list field.0 i field.1

-- item i of a part
abbrev pub in_part : Part → ℕ → List ℕ → Part × List ℕ
in_part (part.One r) i name = let f = field_of r i in in_record (in_field r f.0 name) f.1
in_part p i name = in_list p i name

-- ---- what depends on the bytes

-- the string of a view, or no bytes
abbrev pub content : View → List ℕ
content v = result_unwrap_or (view_string v) []

-- an item of a list, or the list if it has no such item
abbrev pub item_in : View → ℕ → View
item_in v i = result_unwrap_or (item_at v i) v

-- the bytes of an envelope, which is standalone or in a string: the byte of a type is below 0x80
abbrev pub envelope : View → List ℕ
envelope v = if nat_lt (slice_index_or v.bytes 0 0x80) 0x80 then v.bytes else content v

-- the list of an envelope, or a list itself
abbrev pub payload : View → View
payload v = if begins_as_list v.bytes then v else strict_view_of (drop 1 (envelope v))

-- the payload of the transactions of a type
abbrev pub typed_kind : ℕ → Record
typed_kind n =
    if n == 1 then named.AccessList
    else if n == 2 then named.FeeMarket
    else if n == 3 then named.Blob
    else if n == 4 then named.SetCode
    else named.Other

-- which transaction a view is
abbrev pub transaction_kind : View → Record
transaction_kind v = if begins_as_list v.bytes then named.Legacy else typed_kind (slice_index_or (envelope v) 0 0)

-- the record of a transaction as it is sent: a transaction of type 3 has its blobs, in a list of four or five items
abbrev pub with_blobs : Record → View → Record
with_blobs named.Blob v = if result_unwrap_or (item_count v) 0 == 4 then named.WithProofs else named.WithCellProofs
with_blobs r v = r

abbrev pub pooled_kind : View → Record
pooled_kind v = with_blobs (transaction_kind v) (payload v)

-- which node of the trie a view is
abbrev pub node_kind : View → Record
node_kind v =
    if result_unwrap_or (item_count v) 0 == 17 then named.Branch
    else if is_leaf_path (content (item_in v 0)) then named.Leaf
    else named.Extension

-- what a part is, by its view, and the view that has its fields
abbrev pub opened : Part → View → Part × View
opened (part.One (named.Kind kind.Node)) v = (part.One (node_kind v), v)
opened (part.One (named.Kind kind.Receipt)) v = (part.One named.ReceiptPayload, payload v)
opened (part.One (named.Kind kind.Transaction)) v = (part.One (transaction_kind v), payload v)
opened (part.One named.Pooled) v = (part.One (pooled_kind v), payload v)
opened p v = (p, v)

-- The name of the part that a path leads to, in a part of this name. Where the parts have no names, the name ends.
abbrev pub naming : Part → View → List ℕ → List ℕ → List ℕ
naming p v [] name = name
naming p v (i ∷ path) name =
    let o = opened p v in
    let step = in_part o.0 i name in
    naming step.0 (item_in o.1 i) path step.1
