-- What is written for the lines of a text, by the answer to each line.
use Rattle.std.specs.{Prelude.{ℕ, Bool, nat_eq, nat_lt, ◌||◌, if◌then◌else◌, List, [], ◌∷◌, ◌++◌, length, codes}, List.{flat_map, list_any, starts_with}}
use Rattle.rlp_lines.specs.Lines.{lines}

-- the answer to any line, by the greatest length of a line without its newline, the answer to a longer line, and the answer to any other line
unfoldable pub answer_by : ℕ → List ℕ → (List ℕ → List ℕ) → List ℕ → List ℕ
answer_by longest long within line = if nat_lt longest (length line) then long else within line

-- the answer to a line, and a newline
abbrev pub reply : (List ℕ → List ℕ) → List ℕ → List ℕ
reply answer line = answer line ++ 10 ∷ []

-- whether an answer says that its line is at fault: it begins with `error`, or is an object of JSON whose first key is `error`
abbrev pub says_fault : List ℕ → Bool
says_fault a = starts_with nat_eq a (codes "error") || starts_with nat_eq a (codes "{\"error\"")

-- whether the answer to a line says that the line is at fault
abbrev pub is_fault : (List ℕ → List ℕ) → List ℕ → Bool
is_fault answer line = says_fault (answer line)

-- whether one of some lines is at fault
abbrev pub has_fault : (List ℕ → List ℕ) → List (List ℕ) → Bool
has_fault answer some_lines = list_any (is_fault answer) some_lines

-- the replies to some lines, one after another
unfoldable pub replies_to : (List ℕ → List ℕ) → List (List ℕ) → List ℕ
replies_to answer some_lines = flat_map (reply answer) some_lines

-- the replies to all lines of a text
abbrev pub replies : (List ℕ → List ℕ) → List ℕ → List ℕ
replies answer t = replies_to answer (lines t)
