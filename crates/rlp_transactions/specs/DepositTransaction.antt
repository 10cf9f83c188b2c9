-- How deposits of the OP stack are written and read.
use Rattle.std.specs.Vec.{vec_items}
use Rattle.rlp.specs.Codec.{Codec, byte_string, end, field, number, struct_of, truth_value, uint}
use Rattle.rlp_transactions.specs.{declared.deposit_transaction.DepositTransaction.DepositTransaction, Recipient.recipient}
use Rattle.rlp_records.specs.{Address.address, Hash.hash}

-- the specification of deposits: rlp([sourceHash, from, to, mint, value, gas, isSystemTransaction, data])
abbrev pub deposit_transaction : Codec DepositTransaction
deposit_transaction = struct_of (
    field (λ (d : DepositTransaction). d.source_hash) hash (
    field (λ (d : DepositTransaction). d.from) address (
    field (λ (d : DepositTransaction). d.to) recipient (
    field (λ (d : DepositTransaction). d.mint) (uint 32) (
    field (λ (d : DepositTransaction). d.value) (uint 32) (
    field (λ (d : DepositTransaction). d.gas_limit) (number 8) (
    field (λ (d : DepositTransaction). d.is_system_transaction) truth_value (
    field (λ (d : DepositTransaction). d.data) (byte_string vec_items) end))))))))
