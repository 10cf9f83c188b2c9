-- Scripts: calls of a stream as text.
use Rattle.std.specs.Prelude.{ℕ, ◌≡◌, ◌+◌, ◌==◌, ◌++◌, length, Bool, if◌then◌else◌, List, [], ◌∷◌, take, drop, is_some}
use Rattle.std.specs.{Prelude.{Option, Some, None, option_map, position, filter_map, Result, Ok, Err}, List.{slice_split, list_all, prefix_len}, Str.{byte}}
use Rattle.rlp.specs.{Format.Encoding.{string}, Streams.Stream.{Call, append, append_raw, begin_list, begin_unbounded_list, finalize_unbounded_list, clear}}
use Rattle.rlp_lines.specs.Digits.{bytes_in, number_in}
use Rattle.rlp_tool.specs.{declared.script.ScriptFault.ScriptFault, declared.script.ScriptFault.TheVariants.{Syntax, OutOfMemory}}

-- the call of a single letter: `u` begins an unbounded list, `e` ends it, `c` clears
abbrev pub letter_call : ℕ → Option Call
letter_call letter =
    if letter == byte "u" then Some begin_unbounded_list
    else if letter == byte "e" then Some finalize_unbounded_list
    else if letter == byte "c" then Some clear
    else None

-- raw bytes and their announced number of items, if the text has the two
abbrev pub raw_call : Option ℕ → Option (List ℕ) → Option Call
raw_call (Some count) (Some bytes) = Some (append_raw bytes count)
raw_call (Some count) None = None
raw_call None bytes = None

-- raw bytes and their announced number of items, by the place of the colon between the number and the digits
abbrev pub raw_parts : List ℕ → Option ℕ → Option Call
raw_parts text (Some at) = raw_call (number_in (take at text)) (bytes_in (drop (at + 1) text))
raw_parts text None = None

-- the call of a letter and a colon, by the text that follows: `d` appends the string of the bytes, `r` puts raw bytes with their announced number of items,
-- `l` begins a list with its number of items
abbrev pub labelled_call : ℕ → List ℕ → Option Call
labelled_call letter text =
    if letter == byte "d" then option_map (λ bytes. append (string bytes)) (bytes_in text)
    else if letter == byte "r" then raw_parts text (position (λ b. b == byte ":") text)
    else if letter == byte "l" then option_map begin_list (number_in text)
    else None

-- the call of a piece, if the piece is a call: a single letter, or a letter, a colon and arguments
abbrev pub call_in : List ℕ → Option Call
call_in [] = None
call_in (letter ∷ []) = letter_call letter
call_in (letter ∷ colon ∷ text) = if colon == byte ":" then labelled_call letter text else None

-- whether a piece is a call
abbrev pub is_call : List ℕ → Bool
is_call piece = is_some (call_in piece)

-- the calls of all pieces, or the place, counted from 1, of the first piece that isn't a call
abbrev pub calls_in : List (List ℕ) → Result (List Call) ℕ
calls_in pieces = if list_all is_call pieces then Ok (filter_map call_in pieces) else Err (1 + prefix_len is_call pieces)

-- The calls of a script. An empty text has no calls. Any other text is cut at every space.
abbrev pub script : List ℕ → Result (List Call) ℕ
script [] = Ok []
script (b ∷ text) = calls_in (slice_split (λ c. c == byte " ") (b ∷ text))

-- why a script can't be read: a piece isn't a call, or memory was refused
abbrev pub IsScriptFault : List ℕ → ScriptFault → Type 0
IsScriptFault text (Syntax place) = script text ≡ Err place
IsScriptFault text OutOfMemory = Unit

-- ---- parts that only clauses of private functions cite

-- some calls, and behind them the calls of the pieces that are left, or the place of the first piece that isn't a call, counted from the first call
abbrev pub prepend : List Call → Result (List Call) ℕ → Result (List Call) ℕ
prepend calls (Ok others) = Ok (calls ++ others)
prepend calls (Err place) = Err (length calls + place)

-- the place of the first piece that isn't a call, or `None` if all pieces are calls; `first` is the place of the first piece
abbrev pub IsUnread : ℕ → Result (List Call) ℕ → Option ℕ → Type 0
IsUnread first left (Some place) = (calls : List Call) × (left ≡ Err (length calls + 1)) × (place ≡ first + length calls)
IsUnread first left None = (calls : List Call) × (left ≡ Ok calls)
