-- How a block's hash or number is written and read.
use Rattle.std.specs.Prelude.{ℕ, ◌≡◌, ◌⊎◌, ◌==◌, if◌then◌else◌, List, length, Result, Ok}
use Rattle.std.proofs.Common.{inl, inr}
use Rattle.rlp.specs.{Form.{Fault, map_value, number_of}, Format.Encoding.big_endian, Values.Value.FitsBytes}
use Rattle.rlp_messages.specs.{declared.eth.requests.HashOrNumber.{HashOrNumber}, declared.eth.requests.HashOrNumber.TheVariants.{Hash, Number}}

-- the bytes of the hash, or the digits of the number
abbrev pub hash_or_number_bytes : HashOrNumber → List ℕ
hash_or_number_bytes (Hash h) = h.0
hash_or_number_bytes (Number n) = big_endian n

-- a hash has 32 bytes, and a number at most eight
abbrev pub IsHashOrNumber : HashOrNumber → Type 0
IsHashOrNumber (Hash h) = length h.0 ≡ 32
IsHashOrNumber (Number n) = FitsBytes 8 n

-- the bytes of the hash, or the number
abbrev pub seen_hash_or_number : HashOrNumber → List ℕ ⊎ ℕ
seen_hash_or_number (Hash h) = inl h.0
seen_hash_or_number (Number n) = inr n

-- the bytes of a hash or number, by what contracts see of it
abbrev pub written_hash_or_number : List ℕ ⊎ ℕ → List ℕ
written_hash_or_number (inl h) = h
written_hash_or_number (inr n) = big_endian n

-- what a string gives: a hash if it has 32 bytes, and else a number of at most eight
abbrev pub hash_or_number_of : List ℕ → Result (List ℕ ⊎ ℕ) Fault
hash_or_number_of d = if length d == 32 then Ok (inl d) else map_value inr (number_of 8 d)
