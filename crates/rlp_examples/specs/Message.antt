-- How messages are written and read.
use Rattle.std.specs.{Prelude.{ℕ, ◌⊎◌, codes}, Global.Vec, Vec.vec_items}
use Rattle.std.proofs.Common.{inl, inr}
use Rattle.rlp.specs.Codec.{Cases, Codec, and_case, byte_string, last_case, newtype, number, tagged_list}
use Rattle.rlp_examples.specs.{declared.message.Message.Message, declared.message.Message.TheVariants.{Data, Ping}}

-- the kinds of messages, each with its number
abbrev pub message_kinds : Cases (ℕ ⊎ Vec ℕ)
message_kinds =
    and_case 1 (number 8) (
    last_case (codes "unknown message") 2 (byte_string vec_items))

-- a message as one of these kinds
abbrev pub as_sum : Message → ℕ ⊎ Vec ℕ
as_sum (Ping n) = inl n
as_sum (Data bytes) = inr bytes

-- the list of the number of its kind, and its content
abbrev pub message : Codec Message
message = newtype as_sum (tagged_list 1 message_kinds)
