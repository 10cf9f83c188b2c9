-- The lines of a text.
use Rattle.std.specs.{Prelude.{ℕ, ◌==◌, List, [], ◌∷◌, ◌++◌}, List.slice_split}

-- the pieces of a text that is cut at each newline
unfoldable pub pieces : List ℕ → List (List ℕ)
pieces t = slice_split (λ byte. byte == 10) t

-- all pieces but the last
abbrev pub all_but_last : List (List ℕ) → List (List ℕ)
all_but_last [] = []
all_but_last (piece ∷ []) = []
all_but_last (piece ∷ next ∷ rest) = piece ∷ all_but_last (next ∷ rest)

-- the last piece
abbrev pub last_of : List (List ℕ) → List ℕ
last_of [] = []
last_of (piece ∷ []) = piece
last_of (piece ∷ next ∷ rest) = last_of (next ∷ rest)

-- the lines of a text that a newline ends: all of its pieces but the last
unfoldable pub ended_lines : List ℕ → List (List ℕ)
ended_lines t = all_but_last (pieces t)

-- the text after the last newline
unfoldable pub last_piece : List ℕ → List ℕ
last_piece t = last_of (pieces t)

-- a last piece is a line if it isn't empty
abbrev pub line_of_last : List ℕ → List (List ℕ)
line_of_last [] = []
line_of_last (byte ∷ rest) = (byte ∷ rest) ∷ []

-- the last line of a text, if it isn't empty and no newline ends it
abbrev pub unended_line : List ℕ → List (List ℕ)
unended_line t = line_of_last (last_piece t)

-- the lines of a text: the lines that a newline ends, and then the text after the last newline, if it isn't empty
abbrev pub lines : List ℕ → List (List ℕ)
lines t = ended_lines t ++ unended_line t
