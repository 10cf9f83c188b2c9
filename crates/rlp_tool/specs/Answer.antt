-- The answer to a line.
use Rattle.std.specs.Prelude.{ℕ, ◌≡◌, ◌≤◌, ◌==◌, ◌+◌, nat_lt, Bool, true, if◌then◌else◌, List, [], ◌∷◌, ◌++◌, length, codes, decimal, Option, Some}
use Rattle.std.specs.{Prelude.{None, Result, Ok, Err}, Str.byte, Str.Lines.strip_carriage_return}
use Rattle.hex.specs.Hex.{encode_lower}
use Rattle.rlp.specs.{Views.Depth.depth, Views.Text.text, Streams.Stream.{OpenList, State, initial_state, closed_size, raw_text, Call, append_raw, effect, is_admitted}}
use Rattle.rlp_tool.specs.{Building.is_raw, RawItems.are_raw_items, Script.script}
use Rattle.rlp_lines.specs.{Digits.bytes_in, Replies.answer_by}

-- the greatest depth that is printed
abbrev pub deepest_nesting : ℕ
deepest_nesting = 256

-- ---- lines of digits

-- the text of the view of these bytes, or `error deep` if its lists nest too deep
abbrev pub view_answer : List ℕ → List ℕ
view_answer bytes = if nat_lt deepest_nesting (depth bytes) then codes "error deep" else text bytes

-- the answer for the bytes that the digits of a line decode to, as in `view_answer`, or `error hex` if the line isn't digits, two for each byte
abbrev pub digits_answer : Option (List ℕ) → List ℕ
digits_answer (Some bytes) = view_answer bytes
digits_answer None = codes "error hex"

-- ---- lines of calls

-- `out`, and if there are bytes a space and their digits
abbrev pub finished_answer : List ℕ → List ℕ
finished_answer [] = codes "out"
finished_answer (b ∷ bytes) = codes "out " ++ encode_lower (b ∷ bytes)

-- `open`, the closed size, and the digits of the bytes now
abbrev pub open_answer : ℕ → List ℕ → List ℕ
open_answer size raw = codes "open " ++ decimal size ++ codes " " ++ encode_lower raw

-- the finished buffer of a stream over an empty front, which is the top's payload, if no list is open; else the closed size and the raw text
abbrev pub state_answer : List (OpenList ℕ) → State → List ℕ
state_answer [] s = finished_answer s.stack.inner
state_answer (l ∷ ls) s = open_answer (closed_size s) (raw_text s)

-- whether a call's raw bytes are the announced number of items, none too deep
abbrev pub brings_items : Call → Bool
brings_items (append_raw bytes count) = are_raw_items bytes count
brings_items _ = true

-- why a call isn't admitted: raw bytes have too many items; for any other call there is nothing to finish
abbrev pub refusal_name : Call → List ℕ
refusal_name call = if is_raw call then codes "error too many items at " else codes "error nothing to finish at "

-- the answer to the calls from a state on, with the place of the next call: the first call that fails decides
abbrev pub outcome_answer : ℕ → State → List Call → List ℕ
outcome_answer place s [] = state_answer s.stack.lists s
outcome_answer place s (call ∷ calls) =
    if is_admitted call s
    then (if brings_items call then outcome_answer (place + 1) (effect call s) calls else codes "error raw not items at " ++ decimal place)
    else refusal_name call ++ decimal place

-- the answer to the calls of a script over an empty front, or the place of the first piece that isn't a call
abbrev pub calls_answer : Result (List Call) ℕ → List ℕ
calls_answer (Ok calls) = outcome_answer 1 (initial_state []) calls
calls_answer (Err place) = codes "error syntax at " ++ decimal place

-- ---- all lines

-- the answer to a line without its carriage return: a `+` and a script, or an optional `0x` and digits
abbrev pub text_answer : List ℕ → List ℕ
text_answer [] = digits_answer (bytes_in [])
text_answer (b ∷ rest) = if b == byte "+" then calls_answer (script rest) else digits_answer (bytes_in (b ∷ rest))

-- the most bytes that a line may have, without its newline
abbrev pub longest_line : ℕ
longest_line = 131072

-- the answer to a longer line
abbrev pub long_line : List ℕ
long_line = codes "error long line"

-- the answer to a line that isn't too long: one carriage return at its end is dropped first
abbrev pub answer_within : List ℕ → List ℕ
answer_within line = text_answer (strip_carriage_return line)

-- the answer to a line
abbrev pub answer : List ℕ → List ℕ
answer = answer_by longest_line long_line answer_within

-- a line that isn't too long has these calls: without one carriage return at its end, it is a `+` and a script of them
pub record SaysCalls (line : List ℕ) (calls : List Call) : Type 0 where
  pub within : length line ≤ longest_line
  pub text : List ℕ
  pub stripped : strip_carriage_return line ≡ byte "+" ∷ text
  pub says : script text ≡ Ok calls
