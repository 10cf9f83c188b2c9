-- The bookkeeping of the loop over the input, which only clauses of private functions cite.
use Rattle.std.specs.{Prelude.{◌≡◌, ◌<◌, ◌≤◌, Bool, true, false, ℕ, List, [], ◌∷◌, ◌++◌, length, Option, ◌⊎◌}, Io.KnownBytes.Appends}
use Rattle.rlp_lines.specs.{Lines.{pieces, ended_lines, last_piece}, Replies.{has_fault, replies_to, replies}, Run.{AppendsBefore, AppendsPart}}
use Rattle.rlp_lines.specs.{declared.line.Line.Line, declared.serving.RunFault.RunFault, declared.serving.RunFault.TheVariants.{Memory, Write}}

-- no newline is among these bytes
abbrev pub IsOnePiece : List ℕ → Type 0
IsOnePiece run = pieces run ≡ run ∷ []

-- the bytes kept of a line that has begun, or the fact that it is too long
abbrev pub IsKept : ℕ → List ℕ → Bool → List ℕ → Type 0
IsKept longest kept false begun = (kept ≡ begun) × (length begun ≤ longest)
IsKept longest kept true begun = longest < length begun

-- the current line has begun with these bytes
abbrev pub IsLine : ℕ → Line → List ℕ → Type 0
IsLine longest line begun = IsKept longest line.bytes.items line.over begun

-- the state after a text: some replies were written, the remaining replies wait, the last piece is kept, and it is noted whether a line was at fault
pub record IsAfter (longest : ℕ) (answer : List ℕ → List ℕ) (text written waiting : List ℕ) (line : Line) : Type 0 where
  pub answered : written ++ waiting ≡ replies_to answer (ended_lines text)
  pub begun : IsLine longest line (last_piece text)
  pub noted : line.faulty ≡ has_fault answer (ended_lines text)

-- the state after a text: all its ended lines were answered, the last piece is kept, and it is noted whether a line was at fault
pub record IsServed (longest : ℕ) (answer : List ℕ → List ℕ) (start now : Option (List ℕ)) (text : List ℕ) (line : Line) : Type 0 where
  pub wrote : Appends start now (replies_to answer (ended_lines text))
  pub begun : IsLine longest line (last_piece text)
  pub noted : line.faulty ≡ has_fault answer (ended_lines text)

-- how the answers to a text stop: out of memory, the whole replies to the lines before the refused one were written;
-- a writer that failed has a beginning of the replies
abbrev pub IsStop : (List ℕ → List ℕ) → RunFault → Option (List ℕ) → Option (List ℕ) → List ℕ → List ℕ → Bool → Type 0
IsStop answer fault start new earlier text failed =
    ((fault ≡ Memory) × AppendsBefore answer start new earlier text) ⊎ ((fault ≡ Write) × AppendsPart start new (replies answer text) × (failed ≡ true))
