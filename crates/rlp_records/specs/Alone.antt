-- How standalone values of several types are written and read, outside a list, as in EIP-2718: a value of the type without a number is a list, and a value of a type
-- with a number is an envelope.
use Rattle.std.{specs.Prelude.{ℕ, List, ◌⊎◌, if◌then◌else◌, codes}, proofs.Common.{inl, inr}}
use Rattle.rlp.specs.{Format.Encoding.{Item, list, string, encoding}, Format.Framing.begins_as_list, Views.View.{View, strict_view_of}}
use Rattle.rlp_reading.specs.{Form.{Answer, Fault, map_answer}, Sums.envelope_of}

-- the text of the fault of a type of transaction that isn't in a table
abbrev pub unknown_type : List ℕ
unknown_type = codes "unknown transaction type"

-- A standalone value, as it is sent, hashed or signed: a list is written as its encoding, and a string as its bytes without a header.
abbrev pub bytes_alone : Item → List ℕ
bytes_alone (string d) = d
bytes_alone (list xs) = encoding (list xs)

-- What the bytes of a standalone value give: bytes that begin as a list give what `lists` reads strictly, and other bytes are an envelope, whose payload `typed`
-- reads.
abbrev pub read_alone : {M N : Type 0} → (View → Answer M Fault) → (ℕ → View → Answer N Fault) → List ℕ → Answer (M ⊎ N) Fault
read_alone lists typed d =
    if begins_as_list d then map_answer inl (lists (strict_view_of d)) else map_answer inr (envelope_of typed d)
