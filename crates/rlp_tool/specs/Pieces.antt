-- Pieces of a script, for private functions.
use Rattle.std.specs.{Prelude.{ℕ, ◌≡◌, ◌+◌, ◌%◌, ◌==◌, List, [], ◌∷◌, length, get_or, IsTrue, Option, Some, None}, Borrow.Bor}
use Rattle.std.specs.{List.{slice_split, list_all}, Result.result_unwrap_or, Str.byte}
use Rattle.hex.specs.Hex.{decode_of, is_hex_digit}
use Rattle.rlp.specs.{Format.Encoding.{string}, Streams.Stream.{Call, append, append_raw, begin_list, begin_unbounded_list, finalize_unbounded_list, clear}}
use Rattle.rlp_tool.specs.{declared.script.Piece.Piece, declared.script.Piece.TheVariants.{Value, Byte, Raw, Begin, BeginUnbounded, Finish, Clear}}

-- the bytes of digits
abbrev pub bytes_of : List ℕ → List ℕ
bytes_of digits = result_unwrap_or (decode_of digits) []

-- hexadecimal digits, two for each byte
abbrev pub ArePairs : List ℕ → Type 0
ArePairs digits = (length digits % 2 ≡ 0) × IsTrue (list_all is_hex_digit digits)

-- the call that a piece is, if its digits are right
abbrev pub piece_call : Piece → Call
piece_call (Value digits) = append (string (bytes_of digits.now))
piece_call (Byte b) = append (string (b ∷ []))
piece_call (Raw digits count) = append_raw (bytes_of digits.now) count
piece_call (Begin count) = begin_list count
piece_call BeginUnbounded = begin_unbounded_list
piece_call Finish = finalize_unbounded_list
piece_call Clear = clear

-- the digits of a piece are right
abbrev pub HasPairs : Piece → Type 0
HasPairs (Value digits) = ArePairs digits.now
HasPairs (Raw digits count) = ArePairs digits.now
HasPairs _ = Unit

-- a text is read as this piece, or it isn't a call
abbrev pub IsRead : Option Piece → Option Call → Type 0
IsRead (Some piece) call = HasPairs piece × (call ≡ Some (piece_call piece))
IsRead None call = call ≡ None

-- a text, cut at every space
abbrev pub spaces : List ℕ → List (List ℕ)
spaces text = slice_split (λ c. c == byte " ") text

-- the first piece of a text
abbrev pub front_piece : List ℕ → List ℕ
front_piece text = get_or (spaces text) 0 []

-- the pieces that are left, and a number that is smaller if fewer pieces are left
abbrev pub pieces_left : Option (Bor (List ℕ)) → List (List ℕ)
pieces_left (Some text) = spaces text.now
pieces_left None = []

abbrev pub left_len : Option (Bor (List ℕ)) → ℕ
left_len (Some text) = length text.now + 1
left_len None = 0
