-- How withdrawals are written and read.
use Rattle.std.specs.Vec.{vec_items}
use Rattle.rlp.specs.Codec.{Codec, end, field, list_type, number, struct_of}
use Rattle.rlp_headers.specs.{declared.withdrawal.Withdrawal.Withdrawal, declared.withdrawal.Withdrawals.Withdrawals}
use Rattle.rlp_records.specs.Address.{address}

-- EIP-4895: [index, validator_index, address, amount]
abbrev pub withdrawal : Codec Withdrawal
withdrawal = struct_of (
    field (λ (w : Withdrawal). w.index) (number 8) (
    field (λ (w : Withdrawal). w.validator_index) (number 8) (
    field (λ (w : Withdrawal). w.address) address (
    field (λ (w : Withdrawal). w.amount) (number 8) end))))

-- the list of the withdrawals
abbrev pub withdrawals : Codec Withdrawals
withdrawals = list_type (λ (w : Withdrawals). vec_items w.0) withdrawal
