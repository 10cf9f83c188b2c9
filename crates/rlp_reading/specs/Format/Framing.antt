-- Where the items of bytes begin and end, and what is wrong where bytes are no item.
use Rattle.std.specs.Prelude.{ℕ, ◌≡◌, ◌+◌, ◌-◌, ◌^◌, ◌<◌, Bool, ◌&&◌, if◌then◌else◌, ◌==◌, nat_lt, nat_le, List, [], ◌∷◌, ◌++◌, length, take, Result, Ok, Err}
use Rattle.std.specs.{Prelude.{MatchResult, ◌≤◌, drop, zero, suc, true, false, All, slice_index, Option, Some, None}, Int.Digits.number_from_digits, List.{concat}}
use Rattle.rlp_reading.specs.{declared.error.DecoderError.{DecoderError}, declared.error.DecoderError.TheVariants.RlpIsTooBig, declared.header.PayloadInfo.PayloadInfo}
use Rattle.rlp_reading.specs.declared.error.DecoderError.TheVariants.{RlpIsTooShort, RlpDataLenWithZeroPrefix, RlpListLenWithZeroPrefix, RlpInvalidIndirection}
use Rattle.rlp_reading.specs.declared.error.DecoderError.TheVariants.{RlpExpectedToBeData, RlpInconsistentLengthAndData, RlpInvalidLength, RlpExpectedToBeList}
use Rattle.rlp_format.specs.Format.Encoding.{written_header, IsBase, BeginsWith, encoding, is_low_byte, string, Item, item_depth}

-- ---- the header that bytes begin with

-- `HasHeader b h n`: b begins with a header of h bytes, which announces n bytes of value. A byte below 0x80 is its own value, with a header of 0 bytes.
pub data HasHeader : List ℕ → ℕ → ℕ → Type 0 where
  lone : (byte : ℕ) (rest : List ℕ) → byte < 0x80 → HasHeader (byte ∷ rest) 0 1
  written : (base n : ℕ) (rest : List ℕ) → IsBase base → n < 2 ^ 64 → HasHeader (written_header base n ++ rest) (length (written_header base n)) n

-- b begins with no header
abbrev pub HasNoHeader : List ℕ → Type 0
HasNoHeader b = (h n : ℕ) → ¬ HasHeader b h n

-- the number of bytes of the length that follows this first byte
abbrev pub announced : ℕ → ℕ
announced first = if nat_lt first 0xc0 then first - 0xb7 else first - 0xf7

-- whether n is between low and high, or one of them
abbrev pub is_within : ℕ → ℕ → ℕ → Bool
is_within low high n = nat_le low n && nat_le n high

-- Why bytes begin with no header: the first fault that applies. It has no meaning for bytes that have a header.
abbrev pub header_fault : List ℕ → DecoderError
header_fault [] = RlpIsTooShort
header_fault (first ∷ []) = RlpIsTooShort
header_fault (first ∷ second ∷ rest) =
    if (second == 0) && is_within 0xb8 0xbf first then RlpDataLenWithZeroPrefix
    else if (second == 0) && is_within 0xf8 0xff first then RlpListLenWithZeroPrefix
    else if nat_lt (length (second ∷ rest)) (announced first) then RlpIsTooShort
    else RlpInvalidIndirection

-- the right answer for b: the lengths of its header and value, or the fault if it has no header
abbrev pub ReadsHeader : List ℕ → Result PayloadInfo DecoderError → Type 0
ReadsHeader b answer = MatchResult answer (λ p. HasHeader b p.header_len p.value_len) (λ e. HasNoHeader b × (e ≡ header_fault b))

-- ---- the same, computed by the first byte. The law `header_is_read` says that it gives the one header of `HasHeader`, or `header_fault`.

-- a header of h bytes and a value of n bytes
abbrev pub payload_info : ℕ → ℕ → PayloadInfo
payload_info h n = record { header_len = h; value_len = n }

-- the header of a first byte that announces k length bytes; the bytes after it begin with these
abbrev pub long_header : DecoderError → ℕ → List ℕ → Result PayloadInfo DecoderError
long_header zero_fault k [] = Err RlpIsTooShort
long_header zero_fault k (second ∷ rest) =
    if second == 0 then Err zero_fault
    else if nat_lt (length (second ∷ rest)) k then Err RlpIsTooShort
    else if nat_le (number_from_digits 256 (take k (second ∷ rest))) 55 then Err RlpInvalidIndirection
    else Ok (payload_info (1 + k) (number_from_digits 256 (take k (second ∷ rest))))

-- the lengths of the header that b begins with and of its value, or why there is no header
unfoldable pub header : List ℕ → Result PayloadInfo DecoderError
header [] = Err RlpIsTooShort
header (first ∷ rest) =
    if nat_lt first 0x80 then Ok (payload_info 0 1)
    else if nat_lt first 0xb8 then Ok (payload_info 1 (first - 0x80))
    else if nat_lt first 0xc0 then long_header RlpDataLenWithZeroPrefix (first - 0xb7) rest
    else if nat_lt first 0xf8 then Ok (payload_info 1 (first - 0xc0))
    else long_header RlpListLenWithZeroPrefix (first - 0xf7) rest

-- ---- where the first item ends

-- b has a header, and the value that the header announces lies within b
pub record IsFramed (b : List ℕ) : Type 0 where
  pub header_len : ℕ
  pub value_len : ℕ
  pub has_header : HasHeader b header_len value_len
  pub within : header_len + value_len ≤ length b

-- b is exactly a header and the value that it announces
pub record IsFramedItem (b : List ℕ) : Type 0 where
  pub header_len : ℕ
  pub value_len : ℕ
  pub has_header : HasHeader b header_len value_len
  pub whole : header_len + value_len ≡ length b

-- why b isn't framed: it begins with no header, or it ends before the value that the header announces
pub data IsFault (b : List ℕ) : DecoderError → Type 0 where
  no_header : HasNoHeader b → IsFault b (header_fault b)
  cut_short : (h n : ℕ) → HasHeader b h n → length b < h + n → IsFault b RlpIsTooShort

-- ---- the same, computed. The law `framing_is_read` ties it to the above.

-- the length of header and value together
abbrev pub total_len : PayloadInfo → ℕ
total_len p = p.header_len + p.value_len

-- the header that was read, if header and value lie within b
abbrev pub framing_in : List ℕ → Result PayloadInfo DecoderError → Result PayloadInfo DecoderError
framing_in b (Err e) = Err e
framing_in b (Ok p) = if nat_le (total_len p) (length b) then Ok p else Err RlpIsTooShort

-- the header of b if b is framed, else the fault
unfoldable pub framing : List ℕ → Result PayloadInfo DecoderError
framing b = framing_in b (header b)

-- the fault of an answer
abbrev pub fault_in : Result PayloadInfo DecoderError → DecoderError
fault_in (Err e) = e
fault_in (Ok p) = RlpIsTooShort

-- why b isn't framed; it has no meaning for framed bytes
unfoldable pub fault : List ℕ → DecoderError
fault b = fault_in (framing b)

-- f of the answer, unless it is a fault
abbrev pub map_ok : {A B : Type 0} → (A → B) → Result A DecoderError → Result B DecoderError
map_ok f (Ok x) = Ok (f x)
map_ok f (Err e) = Err e

-- the bytes of the header and the value, if b is framed
unfoldable pub frame : List ℕ → Result (List ℕ) DecoderError
frame b = map_ok (λ p. take (total_len p) b) (framing b)

-- the bytes of the value, if b is framed
unfoldable pub value : List ℕ → Result (List ℕ) DecoderError
value b = map_ok (λ p. take p.value_len (drop p.header_len b)) (framing b)

-- ---- the items that bytes begin with, and what follows the items

-- the fs are framed items, and p begins with their joined bytes
pub record IsCut (p : List ℕ) (fs : List (List ℕ)) : Type 0 where
  pub each : All IsFramedItem fs
  pub begins : BeginsWith p (concat fs)

-- the fs are the longest list of framed items with whose joined bytes p begins
pub record IsSplit (p : List ℕ) (fs : List (List ℕ)) : Type 0 where
  pub cut : IsCut p fs
  pub longest : (gs : List (List ℕ)) → IsCut p gs → length gs ≤ length fs

-- ---- the same, computed

-- the first frame of p, and then the items that `more` gives for the bytes after the frame
abbrev pub frame_and_more : (List ℕ → List (List ℕ)) → List ℕ → Result (List ℕ) DecoderError → List (List ℕ)
frame_and_more more p (Err e) = []
frame_and_more more p (Ok f) = f ∷ more (drop (length f) p)

-- the first framed items of p, at most this number of them
abbrev pub split_within : ℕ → List ℕ → List (List ℕ)
split_within zero p = []
split_within (suc turns) p = frame_and_more (split_within turns) p (frame p)

-- The longest list of framed items with whose joined bytes p begins. The law `split_is_longest` says that only this list is `IsSplit`. Each item has a byte, so
-- there are no more items than bytes.
unfoldable pub split : List ℕ → List (List ℕ)
split p = split_within (length p) p

-- whether the first byte begins a list
abbrev pub begins_as_list : List ℕ → Bool
begins_as_list [] = false
begins_as_list (first ∷ rest) = nat_le 0xc0 first

-- the value, if the result is a value and the bytes begin a list
abbrev pub payload_in : Bool → Result (List ℕ) DecoderError → List ℕ
payload_in true (Ok v) = v
payload_in true (Err e) = []
payload_in false v = []

-- the value of a framed list, and no bytes for anything else
unfoldable pub payload : List ℕ → List ℕ
payload b = payload_in (begins_as_list b) (value b)

-- the items of a framed list: the longest list of framed items with whose joined bytes its value begins. Anything else has no items.
unfoldable pub items : List ℕ → List (List ℕ)
items b = split (payload b)

-- the bytes that follow the items in the value of a framed list; no bytes for anything else
unfoldable pub rest : List ℕ → List ℕ
rest b = drop (length (concat (items b))) (payload b)

-- ---- the string that bytes begin with

-- `IsString b d`: b begins with the encoding of the string d
abbrev pub IsString : List ℕ → List ℕ → Type 0
IsString b d = BeginsWith b (encoding (string d))

-- b begins with no string's encoding
abbrev pub HasNoString : List ℕ → Type 0
HasNoString b = (d : List ℕ) → ¬ IsString b d

-- why there is no string after a first byte that announces n bytes, at most 55: fewer bytes follow, or the string is one byte below 0x80, which has no header
abbrev pub short_string_fault : ℕ → List ℕ → DecoderError
short_string_fault n rest = if nat_lt (length rest) n then RlpInconsistentLengthAndData else RlpInvalidIndirection

-- Why there is no string of n bytes after k length bytes, in this order: a length up to 55 belongs in the first byte, header and string have to be fewer than 2^64
-- bytes, or fewer than n bytes follow.
abbrev pub long_value_fault : ℕ → ℕ → DecoderError
long_value_fault k n =
    if nat_le n 55 then RlpInvalidIndirection
    else if nat_lt (2 ^ 64 - 1) (1 + k + n) then RlpInvalidLength
    else RlpInconsistentLengthAndData

-- why there is no string after a first byte that announces k length bytes: fewer length bytes follow, the first of them is zero, or a fault of the length itself
abbrev pub long_string_fault : ℕ → List ℕ → DecoderError
long_string_fault k rest =
    if nat_lt (length rest) k then RlpInconsistentLengthAndData
    else if slice_index rest 0 == 0 then RlpInvalidIndirection
    else long_value_fault k (number_from_digits 256 (take k rest))

-- Why b begins with no string: the first case that applies. It has no meaning for bytes that begin with a string.
abbrev pub string_fault : List ℕ → DecoderError
string_fault [] = RlpIsTooShort
string_fault (first ∷ rest) =
    if nat_lt first 0xb8 then short_string_fault (first - 0x80) rest
    else if nat_lt first 0xc0 then long_string_fault (first - 0xb7) rest
    else RlpExpectedToBeData

-- the right answer for b: the string that it begins with, or the fault if there is none
abbrev pub ReadsString : List ℕ → Result (List ℕ) DecoderError → Type 0
ReadsString b answer = MatchResult answer (λ d. IsString b d) (λ e. HasNoString b × (e ≡ string_fault b))

-- ---- the same, computed by the first byte. The law `string_is_read` says that the string is the one of `IsString`, and the fault is `string_fault`.

-- After a first byte that announces n bytes, at most 55: all have to be there, and one byte below 0x80 must not have a header.
abbrev pub short_string : ℕ → List ℕ → Result (List ℕ) DecoderError
short_string n rest =
    if nat_lt (length rest) n then Err RlpInconsistentLengthAndData
    else if is_low_byte (take n rest) then Err RlpInvalidIndirection
    else Ok (take n rest)

-- After k length bytes that announce n: a length up to 55 belongs in the first byte, header and string have to be fewer than 2^64 bytes, and the
-- n bytes have to be there.
abbrev pub long_value : ℕ → ℕ → List ℕ → Result (List ℕ) DecoderError
long_value k n rest =
    if nat_le n 55 then Err RlpInvalidIndirection
    else if nat_lt (2 ^ 64 - 1) (1 + k + n) then Err RlpInvalidLength
    else if nat_lt (length rest) n then Err RlpInconsistentLengthAndData
    else Ok (take n rest)

-- After a first byte that announces k length bytes: all have to be there, and the first isn't zero.
abbrev pub long_string : ℕ → List ℕ → Result (List ℕ) DecoderError
long_string k rest =
    if nat_lt (length rest) k then Err RlpInconsistentLengthAndData
    else if slice_index rest 0 == 0 then Err RlpInvalidIndirection
    else long_value k (number_from_digits 256 (take k rest)) (drop k rest)

-- The string that b begins with, or why there is none. A byte below 0x80 is its own string. A byte below 0xb8 announces the string's length. A byte below 0xc0
-- announces the number of length bytes. Any other byte begins a list.
unfoldable pub read_string : List ℕ → Result (List ℕ) DecoderError
read_string [] = Err RlpIsTooShort
read_string (first ∷ rest) =
    if nat_lt first 0x80 then Ok (first ∷ [])
    else if nat_lt first 0xb8 then short_string (first - 0x80) rest
    else if nat_lt first 0xc0 then long_string (first - 0xb7) rest
    else Err RlpExpectedToBeData

-- ---- bytes that are exactly one item

-- b is canonical: it is the encoding of an item
abbrev pub IsCanonical : List ℕ → Type 0
IsCanonical b = (x : Item) × (b ≡ encoding x)

-- b is the encoding of an item of at most this depth
abbrev pub IsCanonicalWithin : ℕ → List ℕ → Type 0
IsCanonicalWithin most b = (x : Item) × (b ≡ encoding x) × (item_depth x ≤ most)

-- the answer, unless there is a fault
abbrev pub unless : {A : Type 0} → Option DecoderError → Result A DecoderError → Result A DecoderError
unless None answer = answer
unless (Some e) answer = Err e

-- the first of two faults
abbrev pub first_fault : Option DecoderError → Option DecoderError → Option DecoderError
first_fault None later = later
first_fault (Some e) later = Some e

-- the strict fault, by the framing of b
abbrev pub strict_fault_in : List ℕ → Result PayloadInfo DecoderError → Option DecoderError
strict_fault_in b (Err e) = Some e
strict_fault_in b (Ok p) = if nat_lt (total_len p) (length b) then Some RlpIsTooBig else None

-- The strict fault: why b isn't framed, or else that bytes follow the framed item. Exactly one framed item has no strict fault.
unfoldable pub strict_fault : List ℕ → Option DecoderError
strict_fault b = strict_fault_in b (framing b)

-- whether b is longer than its header and value
abbrev pub is_longer : List ℕ → Result PayloadInfo DecoderError → Bool
is_longer b (Err e) = false
is_longer b (Ok p) = nat_lt (total_len p) (length b)

-- whether bytes follow the framed item that b begins with
unfoldable pub is_followed : List ℕ → Bool
is_followed b = is_longer b (framing b)

-- why bytes aren't an item, if there are any
abbrev pub fault_of_some : List ℕ → Option DecoderError
fault_of_some [] = None
fault_of_some (byte ∷ more) = Some (fault (byte ∷ more))

-- Why b isn't exactly one list. The first fault that applies: b doesn't begin as a list, b has a strict fault, or bytes that aren't an item follow the items in the
-- list.
unfoldable pub strict_list_fault : List ℕ → Option DecoderError
strict_list_fault b = if begins_as_list b then first_fault (strict_fault b) (fault_of_some (rest b)) else Some RlpExpectedToBeList

-- the string, unless bytes follow its encoding in b
abbrev pub whole_string : List ℕ → Result (List ℕ) DecoderError → Result (List ℕ) DecoderError
whole_string b (Err e) = Err e
whole_string b (Ok d) = if nat_lt (length (encoding (string d))) (length b) then Err RlpIsTooBig else Ok d

-- the bytes that follow the items that p begins with
abbrev pub after_items : List ℕ → List ℕ
after_items p = drop (length (concat (split p))) p
