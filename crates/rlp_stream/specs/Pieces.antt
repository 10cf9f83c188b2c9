-- The steps of reading an item, which only clauses of private functions cite.
use Rattle.std.specs.Prelude.{ℕ, ◌≡◌, ◌≤◌, ◌+◌, max, List, ◌++◌, length, Option, ⊤}
use Rattle.std.specs.Io.KnownBytes.{Consumes}
use Rattle.rlp_reading.specs.{declared.header.PayloadInfo.PayloadInfo, Format.Framing.{HasHeader, header, total_len}}
use Rattle.rlp_stream.specs.{declared.fault.ReadFault.ReadFault, declared.fault.ReadFault.TheVariants.{Io, TooLong, Truncated, Faulty, OutOfMemory}}

-- the reader failed, or memory was refused
abbrev pub IsStop : ReadFault → Type 0
IsStop (Io e) = ⊤
IsStop TooLong = ⊥
IsStop Truncated = ⊥
IsStop (Faulty e) = ⊥
IsStop OutOfMemory = ⊤

-- what the reader gave follows the bytes from before
pub record AppendsRead (in0 in1 : Option (List ℕ)) (before after : List ℕ) : Type 0 where
  pub more : List ℕ
  pub bytes : after ≡ before ++ more
  pub read : Consumes in0 in1 more

-- these bytes, if they follow, don't change what is read as the header of b
abbrev pub IsSettled : List ℕ → List ℕ → Type 0
IsSettled b more = header (b ++ more) ≡ header b

-- b begins with the header of an item of this length
pub record Announces (b : List ℕ) (total : ℕ) : Type 0 where
  pub header_len : ℕ
  pub value_len : ℕ
  pub has_header : HasHeader b header_len value_len
  pub whole : header_len + value_len ≡ total

-- what was read is the header alone, or the one byte of an item without a header, and lies within the item
pub record IsHeaderAlone (b : List ℕ) (p : PayloadInfo) : Type 0 where
  pub alone : length b ≤ max 1 p.header_len
  pub within : length b ≤ total_len p
