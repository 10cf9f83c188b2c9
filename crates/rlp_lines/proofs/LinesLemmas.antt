-- Lines of a text that grows at its end.
use Rattle.std.proofs.Common.{ℕ, Option, ◌≡◌, ◌≢◌, ◌<◌, ◌≤◌, ◌==◌, length-append, cond, Some, None, Bool, true, false, List, [], ◌∷◌, ◌++◌, length}
use Rattle.std.proofs.{Common.{take, get_or, refl, sym, ap, ◌∙◌, append_assoc, append-nil, arith, length-take}, Math.Seq.take-append_seam}
use Rattle.std.proofs.{lemmas.List.get_or-take, lemmas.List.Splits.{slice_split-cons_yes, slice_split-cons_no, slice_split_none, length-slice_split}}
use Rattle.std.proofs.{lemmas.List.Elements.All-from_get_or, lemmas.Bool.Decides.nat_tests, lemmas.List.Quantifiers.position-Some}
use Rattle.std.proofs.lemmas.List.Sums.{fails_before_first, position_or_len_is}
use Rattle.memchr.specs.Find.{IsFirstByte, is_byte}
use Rattle.std.specs.List.{onto_first, position, position_or_len}
use Rattle.rlp_lines.specs.{Lines.{pieces, all_but_last, last_of, ended_lines, last_piece, line_of_last, lines}, Progress.IsOnePiece}

is-false : (b : Bool) → (b ≡ true → ⊥) → b ≡ false
is-false b e = grind arith

-- pieces, the first of which continues another piece
abbrev onto : List ℕ → List (List ℕ) → List (List ℕ)
onto begun [] = begun ∷ []
onto begun (piece ∷ rest) = (begun ++ piece) ∷ rest

-- the pieces of one text and then of another that follows it
abbrev joined : List (List ℕ) → List (List ℕ) → List (List ℕ)
joined ps qs = all_but_last ps ++ onto (last_of ps) qs

joined-nil : (qs : List (List ℕ)) → 0 < length qs → joined ([] ∷ []) qs ≡ qs
joined-nil qs e = grind arith

joined-cons : (ps qs : List (List ℕ)) → 0 < length ps → joined ([] ∷ ps) qs ≡ [] ∷ joined ps qs
joined-cons ps qs e = grind arith

joined-onto_first : (b : ℕ) (ps qs : List (List ℕ)) → 0 < length ps → joined (onto_first b ps) qs ≡ onto_first b (joined ps qs)
joined-onto_first b ps qs e = grind arith

some_piece : (t : List ℕ) → 0 < length (pieces t)
unfolding pieces
some_piece t = omega (arith, length-slice_split (λ byte. byte == 10) t)

pieces-cons_yes : (b : ℕ) (t : List ℕ) → (b == 10) ≡ true → pieces (b ∷ t) ≡ [] ∷ pieces t
unfolding pieces
pieces-cons_yes b t e = slice_split-cons_yes (λ byte. byte == 10) b t e

pieces-cons_no : (b : ℕ) (t : List ℕ) → (b == 10) ≡ false → pieces (b ∷ t) ≡ onto_first b (pieces t)
unfolding pieces
pieces-cons_no b t e = slice_split-cons_no (λ byte. byte == 10) b t e

pieces-nil : pieces [] ≡ [] ∷ []
unfolding pieces
pieces-nil = refl

pieces-newline : pieces (10 ∷ []) ≡ [] ∷ [] ∷ []
unfolding pieces
pieces-newline = refl

pieces-append : (t x : List ℕ) → pieces (t ++ x) ≡ joined (pieces t) (pieces x)
pieces-append [] x = rw pieces-nil (sym (joined-nil (pieces x) (some_piece x)))
pieces-append (b ∷ t) x =
    elim (b == 10) as (λ test. (b == 10) ≡ test → pieces (b ∷ (t ++ x)) ≡ joined (pieces (b ∷ t)) (pieces x)) [
      | true ↦ λ e. pieces-cons_yes b (t ++ x) e ∙ ap (λ ps. [] ∷ ps) (pieces-append t x) ∙ sym (joined-cons (pieces t) (pieces x) (some_piece t))
          ∙ ap (λ ps. joined ps (pieces x)) (sym (pieces-cons_yes b t e))
      | false ↦ λ e. pieces-cons_no b (t ++ x) e ∙ ap (onto_first b) (pieces-append t x)
          ∙ sym (joined-onto_first b (pieces t) (pieces x) (some_piece t)) ∙ ap (λ ps. joined ps (pieces x)) (sym (pieces-cons_no b t e))
    ] refl

all_but_last-append : (ps qs : List (List ℕ)) → 0 < length qs → all_but_last (ps ++ qs) ≡ ps ++ all_but_last qs
all_but_last-append ps [] h = absurd (omega arith)
all_but_last-append [] (q ∷ qs) h = refl
all_but_last-append (p ∷ []) (q ∷ qs) h = refl
all_but_last-append (p ∷ r ∷ ps) (q ∷ qs) h = ap (λ l. p ∷ l) (all_but_last-append (r ∷ ps) (q ∷ qs) h)

last_of-append : (ps qs : List (List ℕ)) → 0 < length qs → last_of (ps ++ qs) ≡ last_of qs
last_of-append ps [] h = absurd (omega arith)
last_of-append [] (q ∷ qs) h = refl
last_of-append (p ∷ []) (q ∷ qs) h = refl
last_of-append (p ∷ r ∷ ps) (q ∷ qs) h = last_of-append (r ∷ ps) (q ∷ qs) h

length-onto : (begun : List ℕ) (qs : List (List ℕ)) → 0 < length (onto begun qs)
length-onto begun qs = grind arith

-- bytes without a newline
pieces-run : (t run : List ℕ) → IsOnePiece run → pieces (t ++ run) ≡ ended_lines t ++ (last_piece t ++ run) ∷ []
unfolding ended_lines last_piece
pieces-run t run h = pieces-append t run ∙ ap (joined (pieces t)) h

pub ended_lines-run : (t run : List ℕ) → IsOnePiece run → ended_lines (t ++ run) ≡ ended_lines t
unfolding ended_lines
ended_lines-run t run h = grind (arith, pieces-run, all_but_last-append, append-nil)

pub last_piece-run : (t run : List ℕ) → IsOnePiece run → last_piece (t ++ run) ≡ last_piece t ++ run
unfolding last_piece
last_piece-run t run h = ap last_of (pieces-run t run h) ∙ last_of-append (ended_lines t) ((last_piece t ++ run) ∷ []) (omega arith)

-- a newline
pieces-end : (t : List ℕ) → pieces (t ++ 10 ∷ []) ≡ ended_lines t ++ last_piece t ∷ [] ∷ []
unfolding ended_lines last_piece
pieces-end t = pieces-append t (10 ∷ []) ∙ ap (joined (pieces t)) pieces-newline ∙ ap (λ l. ended_lines t ++ l ∷ [] ∷ []) (append-nil (last_piece t))

ended_lines-end : (t : List ℕ) → ended_lines (t ++ 10 ∷ []) ≡ ended_lines t ++ last_piece t ∷ []
unfolding ended_lines
ended_lines-end t = ap all_but_last (pieces-end t) ∙ all_but_last-append (ended_lines t) (last_piece t ∷ [] ∷ []) (omega arith)

last_piece-end : (t : List ℕ) → last_piece (t ++ 10 ∷ []) ≡ []
unfolding last_piece
last_piece-end t = ap last_of (pieces-end t) ∙ last_of-append (ended_lines t) (last_piece t ∷ [] ∷ []) (omega arith)

-- bytes without a newline, and then a newline
pub ended_lines-line : (t run : List ℕ) → IsOnePiece run → ended_lines (t ++ run ++ 10 ∷ []) ≡ ended_lines t ++ (last_piece t ++ run) ∷ []
ended_lines-line t run h = grind (arith, ended_lines-end, ended_lines-run, last_piece-run)

pub last_piece-line : (t run : List ℕ) → last_piece (t ++ run ++ 10 ∷ []) ≡ []
last_piece-line t run = last_piece-end (t ++ run)

-- when a text grows, its lines begin with the lines that were ended
pub ended_lines-append : (t x : List ℕ) → (more : List (List ℕ)) × (ended_lines (t ++ x) ≡ ended_lines t ++ more)
unfolding ended_lines
ended_lines-append t x =
    let rest = onto (last_of (pieces t)) (pieces x) in
    (all_but_last rest, ap all_but_last (pieces-append t x) ∙ all_but_last-append (all_but_last (pieces t)) rest (length-onto (last_of (pieces t)) (pieces x)))

pub take-lines : (t x : List ℕ) → take (length (ended_lines t)) (lines (t ++ x)) ≡ ended_lines t
take-lines t x =
    let grown = ended_lines-append t x in
    ap (λ ls. take (length (ended_lines t)) (ls ++ line_of_last (last_piece (t ++ x)))) grown.1
    ∙ ap (take (length (ended_lines t))) (append_assoc (ended_lines t) grown.0 (line_of_last (last_piece (t ++ x))))
    ∙ take-append_seam (ended_lines t) (grown.0 ++ line_of_last (last_piece (t ++ x)))

pub length-ended_lines-append : (t x : List ℕ) → length (ended_lines t) ≤ length (ended_lines (t ++ x))
length-ended_lines-append t x =
    let grown = ended_lines-append t x in
    omega (arith, ap length grown.1, length-append (ended_lines t) grown.0)

-- the lines of a text by its pieces
abbrev lines_of : List (List ℕ) → List (List ℕ)
lines_of ps = all_but_last ps ++ line_of_last (last_of ps)

lines_of-append : (ps qs : List (List ℕ)) → 0 < length qs → lines_of (ps ++ qs) ≡ ps ++ lines_of qs
lines_of-append ps qs h = grind (arith, all_but_last-append, last_of-append, append_assoc)

length-line_of_last : (piece : List ℕ) → piece ≢ [] → 0 < length (line_of_last piece)
length-line_of_last piece e = grind arith

line_of_longer : (begun : List ℕ) (b : ℕ) (piece : List ℕ) → 0 < length (line_of_last (begun ++ b ∷ piece))
line_of_longer [] b piece = omega arith
line_of_longer (x ∷ begun) b piece = omega arith

line_after_newline : (begun : List ℕ) (ps : List (List ℕ)) → 0 < length ps → 0 < length (lines_of (onto begun ([] ∷ ps)))
line_after_newline begun ps e = grind arith

line_after_byte : (begun : List ℕ) (b : ℕ) (ps : List (List ℕ)) → 0 < length ps → 0 < length (lines_of (onto begun (onto_first b ps)))
line_after_byte begun b ps e = grind (arith, line_of_longer)

-- a piece that a byte follows is in a line
line_of_more : (begun : List ℕ) (b : ℕ) (x : List ℕ) → 0 < length (lines_of (onto begun (pieces (b ∷ x))))
line_of_more begun b x = grind (arith, pieces-cons_yes, line_after_newline, some_piece, pieces-cons_no, line_after_byte)

-- with bytes after a text, there is one more line than the ended ones
pub length-lines-more : (t x : List ℕ) → x ≢ [] → length (ended_lines t) < length (lines (t ++ x))
unfolding ended_lines last_piece
length-lines-more t [] some = absurd (some refl)
length-lines-more t (b ∷ x) some = grind (arith, pieces-append, lines_of-append, length-onto, length-append, line_of_more)

-- with a line that has begun, there is one more line than the ended ones
pub length-lines-begun : (t : List ℕ) → last_piece t ≢ [] → length (ended_lines t) < length (lines t)
length-lines-begun t some = omega (arith, length-append (ended_lines t) (line_of_last (last_piece t)), length-line_of_last (last_piece t) some)

-- if no byte is a newline
one_piece : (xs : List ℕ) → ((k : ℕ) → k < length xs → (get_or xs k 0 == 10) ≡ false) → IsOnePiece xs
unfolding pieces
one_piece xs h = slice_split_none (λ byte. byte == 10) xs (All-from_get_or (λ byte. (byte == 10) ≡ false) xs 0 h)

pub is_newline : (b : ℕ) → (b == 10) ≡ true → b ≡ 10
is_newline b e = grind (arith, nat_tests)

-- the bytes before the first newline
pub one_piece-take : (xs : List ℕ) (at : ℕ) → position (λ byte. byte == 10) xs ≡ Some at → IsOnePiece (take at xs)
one_piece-take xs at e =
    let found = position-Some (λ byte. byte == 10) xs at 0 e in
    one_piece (take at xs) (λ k l. let inside : k < at = omega (arith, length-take at xs) in rw (get_or-take at xs k 0 inside) (found.2 k inside))

position-None : (test : Bool) (at : ℕ) → cond test (Some at) None ≡ None → test ≡ false
position-None test at e = grind arith

-- bytes in which a newline is found aren't empty
pub some_byte : (xs : List ℕ) (at : ℕ) → position (λ byte. byte == 10) xs ≡ Some at → xs ≢ []
some_byte xs at e = grind (arith, position-Some)

-- bytes without a newline
pub one_piece-whole : (xs : List ℕ) → position (λ byte. byte == 10) xs ≡ None → IsOnePiece xs
one_piece-whole xs e = grind (arith, position-None, one_piece, nat_tests, fails_before_first)

pub ended_lines-nil : ended_lines [] ≡ []
unfolding ended_lines
ended_lines-nil = ap all_but_last pieces-nil

pub last_piece-nil : last_piece [] ≡ []
unfolding last_piece
last_piece-nil = ap last_of pieces-nil

-- the first such byte that a search finds
pub first_byte : (a : ℕ) (bytes : List ℕ) (r : Option ℕ) → IsFirstByte (is_byte a) bytes r → r ≡ position (λ b. b == a) bytes
first_byte a bytes None h =
    let all : position_or_len (λ b. b == a) bytes ≡ length bytes = position_or_len_is (λ b. b == a) bytes (length bytes) 0 (omega arith)
    (λ k lt. is-false (get_or bytes k 0 == a) (h k (omega arith) lt)) (λ lt. absurd (omega arith)) in
    grind (arith, all)
first_byte a bytes (Some at) h =
    let first = h.0 in
    let found : position_or_len (λ b. b == a) bytes ≡ at = position_or_len_is (λ b. b == a) bytes at 0 (omega (arith, first.high))
    (λ k lt. is-false (get_or bytes k 0 == a) (first.before k (omega arith) lt)) (λ lt. h.1) in
    let inside : at < length bytes = first.high in
    grind (arith, found, inside)
