-- No bytes have the fault `OutOfMemory` as an account, or as the number in a slot.
use Rattle.rlp.specs.{Codec.{number, uint}, Form.{FieldsReading, group_before, no_fields, one_field}}
use Rattle.rlp_reading.specs.OwnFaults.{HasOwnFaults, HaveOwnFaults}
use Rattle.rlp_reading.proofs.OwnFaultLaws.{arrays_own, end_own, group_own, numbers_own, one_own, structs_own}
use Rattle.rlp_records.specs.Hash.{hash}
use Rattle.rlp_headers.specs.{Account.account, declared.account.Account.Account}

numbers : HasOwnFaults (uint 32).reading
numbers = numbers_own 32

hashes : HasOwnFaults hash.reading
hashes = arrays_own 32

-- the last field, the last two, and the last three
abbrev last : FieldsReading Account
last = group_before (λ (a : Account). a.code_hash) (one_field hash.reading) no_fields

abbrev last_two : FieldsReading Account
last_two = group_before (λ (a : Account). a.storage_root) (one_field hash.reading) last

abbrev last_three : FieldsReading Account
last_three = group_before (λ (a : Account). a.balance) (one_field (uint 32).reading) last_two

last_own : HaveOwnFaults last
last_own = group_own (λ (a : Account). a.code_hash) (one_field hash.reading) no_fields (one_own hash.reading hashes) (end_own Account)

last_two_own : HaveOwnFaults last_two
last_two_own = group_own (λ (a : Account). a.storage_root) (one_field hash.reading) last (one_own hash.reading hashes) last_own

last_three_own : HaveOwnFaults last_three
last_three_own = group_own (λ (a : Account). a.balance) (one_field (uint 32).reading) last_two (one_own (uint 32).reading numbers) last_two_own

accounts : HasOwnFaults account.reading
accounts =
    structs_own (group_before (λ (a : Account). a.nonce) (one_field (number 8).reading) last_three)
    (group_own (λ (a : Account). a.nonce) (one_field (number 8).reading) last_three (one_own (number 8).reading (numbers_own 8)) last_three_own)

pub values_own : HasOwnFaults account.reading × HasOwnFaults (uint 32).reading
values_own = (accounts, numbers)
