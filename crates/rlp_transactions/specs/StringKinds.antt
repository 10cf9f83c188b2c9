-- What strings are the recipients of transactions.
use Rattle.std.specs.Prelude.{ℕ, ◌≡◌, ⊤, Bool, true, false, List, [], ◌∷◌, length, Result, Ok}
use Rattle.rlp_reading.specs.Form.{Fault, fixed_of, map_value}
use Rattle.rlp_transactions.specs.{declared.recipient.Recipient.Recipient, declared.recipient.Recipient.TheVariants.{Creation, Account}}

-- the bytes of an account, or no bytes
abbrev pub recipient_bytes : Recipient → List ℕ
recipient_bytes Creation = []
recipient_bytes (Account address) = address.0

-- an account has 20 bytes
abbrev pub IsRecipient : Recipient → Type 0
IsRecipient Creation = ⊤
IsRecipient (Account address) = length address.0 ≡ 20

-- whether the recipient is an account
abbrev pub is_account : Recipient → Bool
is_account Creation = false
is_account (Account address) = true

-- whether a string is an account: the empty string isn't, and 20 bytes are
abbrev pub account_of : List ℕ → Result Bool Fault
account_of [] = Ok false
account_of (byte ∷ rest) = map_value (λ d. true) (fixed_of 20 (byte ∷ rest))
