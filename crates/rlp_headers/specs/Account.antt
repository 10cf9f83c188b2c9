-- How accounts are written and read.
use Rattle.rlp.specs.Codec.{Codec, end, field, number, struct_of, uint}
use Rattle.rlp_headers.specs.declared.account.Account.{Account}
use Rattle.rlp_records.specs.Hash.{hash}

-- section 4.1 of the yellow paper: (nonce, balance, storageRoot, codeHash)
abbrev pub account : Codec Account
account = struct_of (
    field (λ (a : Account). a.nonce) (number 8) (
    field (λ (a : Account). a.balance) (uint 32) (
    field (λ (a : Account). a.storage_root) hash (
    field (λ (a : Account). a.code_hash) hash end))))
