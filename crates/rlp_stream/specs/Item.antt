-- What reading the first item of a stream gives, by the bytes that are left of the stream.
use Rattle.std.specs.Prelude.{ℕ, ◌≡◌, Bool, true, false, if◌then◌else◌, nat_le, List, [], ◌∷◌, length, Result, Ok, Err, ⊤}
use Rattle.rlp_reading.specs.{declared.error.DecoderError.DecoderError, declared.error.DecoderError.TheVariants.RlpIsTooShort, declared.header.PayloadInfo.PayloadInfo}
use Rattle.rlp_reading.specs.Format.Framing.{header, total_len}
use Rattle.rlp_stream.specs.{declared.fault.ReadFault.ReadFault, declared.fault.ReadFault.TheVariants.{Io, TooLong, Truncated, Faulty, OutOfMemory}}

-- the length of an item by its header, if it is at most `most`; a header that ends too early is truncated
abbrev pub total_within : ℕ → Result PayloadInfo DecoderError → Result ℕ ReadFault
total_within most (Ok p) = if nat_le (total_len p) most then Ok (total_len p) else Err TooLong
total_within most (Err RlpIsTooShort) = Err Truncated
total_within most (Err e) = Err (Faulty e)

-- whether an item of this length lies within the bytes
abbrev pub ends_within : List ℕ → Result ℕ ReadFault → Result Bool ReadFault
ends_within left (Ok total) = if nat_le total (length left) then Ok true else Err Truncated
ends_within left (Err e) = Err e

-- The answer for the bytes that are left: no item if there are none, and else the first item by its header, if it is at most `most` bytes and lies within them.
abbrev pub item_answer : ℕ → List ℕ → Result Bool ReadFault
item_answer most [] = Ok false
item_answer most (byte ∷ more) = ends_within (byte ∷ more) (total_within most (header (byte ∷ more)))

-- the answer is this one, unless the reader failed or memory was refused
abbrev pub UnlessStopped : Result Bool ReadFault → Result Bool ReadFault → Type 0
UnlessStopped (Ok found) answer = answer ≡ Ok found
UnlessStopped (Err (Io e)) answer = ⊤
UnlessStopped (Err TooLong) answer = answer ≡ Err TooLong
UnlessStopped (Err Truncated) answer = answer ≡ Err Truncated
UnlessStopped (Err (Faulty e)) answer = answer ≡ Err (Faulty e)
UnlessStopped (Err OutOfMemory) answer = ⊤
