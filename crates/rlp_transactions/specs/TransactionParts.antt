-- What transactions of every type have, what their signatures say, and which transaction is signed.
use Rattle.std.specs.{Int.Digits.number_from_digits, Prelude.{ℕ, ◌<◌, ◌^◌, ◌≡◌, ◌≢◌, Bool, IfNone, IfSome, List, None, Option, Some}, Vec.vec_items}
use Rattle.rlp.specs.Uint.{Uint}
use Rattle.rlp_records.specs.declared.address.Address.{Address}
use Rattle.rlp_transactions.specs.{Eip155.{FitsChain, IsSignedFor, v_of}, declared.eip155.Eip155.Eip155, declared.recipient.Recipient.Recipient}
use Rattle.rlp_transactions.specs.{declared.recipient.Recipient.TheVariants.{Account, Creation}, declared.scalar.NonZeroScalar.NonZeroScalar}
use Rattle.rlp_transactions.specs.{declared.transaction.Transaction.{Transaction}, declared.transaction.Transaction.TheVariants.{AccessList, Blob, FeeMarket, Legacy, SetCode}}
use Rattle.rlp_transactions.specs.declared.unsigned_transaction.UnsignedTransaction.{UnsignedTransaction}
use Rattle.rlp_transactions.specs.declared.access_list_transaction.AccessList.{AccessList as Accesses}
use Rattle.rlp_transactions.specs.declared.unsigned_transaction.UnsignedTransaction.TheVariants as unsigned

-- the nonce of a transaction
abbrev pub nonce_of : Transaction → ℕ
nonce_of (Legacy t) = t.payload.nonce
nonce_of (AccessList t) = t.payload.nonce
nonce_of (FeeMarket t) = t.payload.nonce
nonce_of (Blob t) = t.payload.nonce
nonce_of (SetCode t) = t.payload.nonce

-- the limit of gas of a transaction
abbrev pub gas_limit_of : Transaction → ℕ
gas_limit_of (Legacy t) = t.payload.gas_limit
gas_limit_of (AccessList t) = t.payload.gas_limit
gas_limit_of (FeeMarket t) = t.payload.gas_limit
gas_limit_of (Blob t) = t.payload.gas_limit
gas_limit_of (SetCode t) = t.payload.gas_limit

-- the value that a transaction sends
abbrev pub value_of : Transaction → Uint 32
value_of (Legacy t) = t.payload.value
value_of (AccessList t) = t.payload.value
value_of (FeeMarket t) = t.payload.value
value_of (Blob t) = t.payload.value
value_of (SetCode t) = t.payload.value

-- the bytes of the input of a transaction
abbrev pub input_of : Transaction → List ℕ
input_of (Legacy t) = vec_items t.payload.data
input_of (AccessList t) = vec_items t.payload.data
input_of (FeeMarket t) = vec_items t.payload.data
input_of (Blob t) = vec_items t.payload.data
input_of (SetCode t) = vec_items t.payload.data

-- the account of a recipient
abbrev pub account_in : Recipient → Option Address
account_in (Account address) = Some address
account_in Creation = None

-- the account that receives the value, unless a contract is created
abbrev pub recipient_of : Transaction → Option Address
recipient_of (Legacy t) = account_in t.payload.to
recipient_of (AccessList t) = account_in t.payload.to
recipient_of (FeeMarket t) = account_in t.payload.to
recipient_of (Blob t) = Some t.payload.to
recipient_of (SetCode t) = Some t.payload.destination

-- the access list, if the type has one
abbrev pub access_list_of : Transaction → Option Accesses
access_list_of (Legacy t) = None
access_list_of (AccessList t) = Some t.payload.access_list
access_list_of (FeeMarket t) = Some t.payload.access_list
access_list_of (Blob t) = Some t.payload.access_list
access_list_of (SetCode t) = Some t.payload.access_list

-- the price of gas, if the type has one
abbrev pub gas_price_of : Transaction → Option (Uint 32)
gas_price_of (Legacy t) = Some t.payload.gas_price
gas_price_of (AccessList t) = Some t.payload.gas_price
gas_price_of t = None

-- EIP-1559, of a transaction with a price of gas: "max_fee_per_gas = transaction.gas_price"
abbrev pub max_fee_of : Transaction → Uint 32
max_fee_of (Legacy t) = t.payload.gas_price
max_fee_of (AccessList t) = t.payload.gas_price
max_fee_of (FeeMarket t) = t.payload.max_fee_per_gas
max_fee_of (Blob t) = t.payload.max_fee_per_gas
max_fee_of (SetCode t) = t.payload.max_fee_per_gas

-- EIP-1559, of a transaction with a price of gas: "max_priority_fee_per_gas = transaction.gas_price"
abbrev pub max_priority_fee_of : Transaction → Uint 32
max_priority_fee_of (Legacy t) = t.payload.gas_price
max_priority_fee_of (AccessList t) = t.payload.gas_price
max_priority_fee_of (FeeMarket t) = t.payload.max_priority_fee_per_gas
max_priority_fee_of (Blob t) = t.payload.max_priority_fee_per_gas
max_priority_fee_of (SetCode t) = t.payload.max_priority_fee_per_gas

-- the number that a `Uint<32>` is
abbrev pub number_of : Uint 32 → ℕ
number_of n = number_from_digits 256 n.bytes

-- v is the `v` of this chain, or of no chain whose number has 64 bits
abbrev pub SaysChain : ℕ → Option ℕ → Type 0
SaysChain v chain = IfSome chain (λ c. IsSignedFor v (Some c)) × IfNone chain ((c : ℕ) → c < 2 ^ 64 → ¬ IsSignedFor v (Some c))

-- the number is no `v`
abbrev pub IsNoV : ℕ → Type 0
IsNoV v = (x : Eip155) → FitsChain x.chain_id → v ≢ v_of x

-- the chain that is signed with the transaction
abbrev pub IsChainOf : Transaction → Option ℕ → Type 0
IsChainOf (Legacy t) chain = SaysChain (number_of t.v) chain
IsChainOf (AccessList t) chain = chain ≡ Some t.payload.chain_id
IsChainOf (FeeMarket t) chain = chain ≡ Some t.payload.chain_id
IsChainOf (Blob t) chain = chain ≡ Some t.payload.chain_id
IsChainOf (SetCode t) chain = chain ≡ Some t.payload.chain_id

-- the first number of the signature
abbrev pub r_of : Transaction → NonZeroScalar
r_of (Legacy t) = t.r
r_of (AccessList t) = t.r
r_of (FeeMarket t) = t.r
r_of (Blob t) = t.r
r_of (SetCode t) = t.r

-- the second number of the signature
abbrev pub s_of : Transaction → NonZeroScalar
s_of (Legacy t) = t.s
s_of (AccessList t) = t.s
s_of (FeeMarket t) = t.s
s_of (Blob t) = t.s
s_of (SetCode t) = t.s

-- The transaction is this one with a signature of this parity. For a transaction without a type, `v` says both the chain that is signed and the parity, as in
-- EIP-155.
abbrev pub Signs : Transaction → UnsignedTransaction → Bool → Type 0
Signs (Legacy t) u parity = (chain : Option ℕ) × ((u ≡ unsigned.Legacy (record { payload = t.payload; chain_id = chain }))
    × (number_of t.v ≡ v_of (record { chain_id = chain; y_parity = parity })))
Signs (AccessList t) u parity = (u ≡ unsigned.AccessList t.payload) × (t.v ≡ parity)
Signs (FeeMarket t) u parity = (u ≡ unsigned.FeeMarket t.payload) × (t.v ≡ parity)
Signs (Blob t) u parity = (u ≡ unsigned.Blob t.payload) × (t.v ≡ parity)
Signs (SetCode t) u parity = (u ≡ unsigned.SetCode t.payload) × (t.v ≡ parity)

-- no signature has this `v`
abbrev pub HasNoV : Transaction → Type 0
HasNoV (Legacy t) = IsNoV (number_of t.v)
HasNoV t = ⊥
