-- How recipients are written and read.
use Rattle.std.specs.Prelude.{false}
use Rattle.rlp_reading.specs.Kinds.{read_kind}
use Rattle.rlp_reading.proofs.StringLaws.{kinds_read}
use Rattle.rlp.specs.Codec.{Codec, string_type}
use Rattle.rlp_transactions.specs.{StringKindLaws.recipient_told, StringKinds.{IsRecipient, account_of, is_account, recipient_bytes}, declared.recipient.Recipient.Recipient}

-- the string of the account's bytes, or the empty string
abbrev pub recipient : Codec Recipient
recipient =
    string_type IsRecipient recipient_bytes (λ r. (is_account r, recipient_bytes r)) (λ m. m.1) (read_kind account_of) false
    (kinds_read IsRecipient recipient_bytes is_account account_of (record { of_kind = recipient_told }))
