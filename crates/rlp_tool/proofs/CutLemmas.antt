-- Pieces of a text, cut at a byte.
use Rattle.std.proofs.Common.{◌≡◌, ◌≢◌, IsTrue, ℕ, ◌+◌, ◌-◌, ◌%◌, ◌<◌, ◌==◌, ◌&&◌, Bool, true, false, cond, nat_lt, List, [], ◌∷◌, ◌++◌, length, take}
use Rattle.std.proofs.Common.{drop, get_or, is_some, Option, Some, None, Result, Ok, Err, refl, sym, ap, ◌∙◌, append_assoc, length-append, arith}
use Rattle.std.proofs.{Common.{position, filter_map}, lemmas.List.{drop-drop, take_all, length-drop}}
use Rattle.std.proofs.{lemmas.List.Splits.{slice_split_first, slice_split_none}, lemmas.List.Elements.All-from_get_or}
use Rattle.std.proofs.lemmas.List.Sums.{AllPass-from_list_all, fails_before_first, position_or_len_is}
use Rattle.std.proofs.{lemmas.Bool.{and_parts, eqb-true, false_from_ne_true}, lemmas.Option.cond_some, lemmas.Bool.Decides.nat_tests}
use Rattle.std.specs.{List.{slice_split, list_all, prefix_len, position_or_len, cons_option}, Result.{result_ok, result_unwrap_or}, Borrow.Bor}
use Rattle.rlp.specs.{Streams.Stream.{Call, append}, Format.Encoding.string}
use Rattle.hex.specs.Hex.{decode_of, is_hex_digit}
use Rattle.hex.proofs.HexLemmas.{decode_of-digits}
use Rattle.rlp_lines.specs.Digits.{number_in, bytes_in, digits_of}
use Rattle.rlp_tool.specs.{declared.script.Piece.Piece, Pieces.{IsRead, bytes_of, left_len, piece_call, pieces_left, spaces}}
use Rattle.rlp_tool.specs.Script.{raw_call, raw_parts, call_in, calls_in, is_call, prepend}

-- no such byte up to one place more
pub no_more : (a : ℕ) (bytes : List ℕ) (n : ℕ) → ((k : ℕ) → k < n → get_or bytes k 0 ≢ a) → get_or bytes n 0 ≢ a → (k : ℕ) → k < n + 1 → get_or bytes k 0 ≢ a
no_more a bytes n none other k lt = grind arith

-- the first such byte that a loop finds
pub first_near : (a : ℕ) (bytes : List ℕ) (at : ℕ) → at < length bytes → ((k : ℕ) → k < at → get_or bytes k 0 ≢ a) → get_or bytes at 0 ≡ a
    → Some at ≡ position (λ b. b == a) bytes
first_near a bytes at inside before here = grind (arith, position_or_len_is, false_from_ne_true, eqb-true, nat_tests)

none_is : (test : Bool) (end : ℕ) → cond test (Some end) None ≡ None → test ≡ false
none_is test end e = grind arith

-- the first piece ends at the first such byte
pub cut-there : (a : ℕ) (xs : List ℕ) (at : ℕ) → position (λ b. b == a) xs ≡ Some at
    → slice_split (λ b. b == a) xs ≡ take at xs ∷ slice_split (λ b. b == a) (drop (at + 1) xs)
cut-there a xs at e = grind (arith, cond_some, nat_tests, slice_split_first)

-- without such a byte there is one piece
pub cut-nowhere : (a : ℕ) (xs : List ℕ) → position (λ b. b == a) xs ≡ None → slice_split (λ b. b == a) xs ≡ xs ∷ []
cut-nowhere a xs e =
    let end = position_or_len (λ b. b == a) xs in
    let past : nat_lt end (length xs) ≡ false = none_is (nat_lt end (length xs)) end e in
    slice_split_none (λ b. b == a) xs (All-from_get_or (λ b. (b == a) ≡ false) xs 0
    (λ k l. let before : k < end = grind (arith, nat_tests) in fails_before_first (λ b. b == a) xs k 0 before))

-- ---- reading piece by piece

pub prepend-nil : (left : Result (List Call) ℕ) → prepend [] left ≡ left
prepend-nil left = grind arith

pub prepend-append : (xs ys : List Call) (left : Result (List Call) ℕ) → prepend (xs ++ ys) left ≡ prepend xs (prepend ys left)
prepend-append xs ys left = grind (arith, append_assoc, length-append)

-- the result of a piece, by its call, and of the pieces after it
abbrev read_by : Option Call → List (List ℕ) → Result (List Call) ℕ
read_by o pieces =
    cond (is_some o && list_all is_call pieces) (Ok (cons_option o (filter_map call_in pieces)))
    (Err (1 + cond (is_some o) (1 + prefix_len is_call pieces) 0))

read_by-some : (o : Option Call) (call : Call) (pieces : List (List ℕ)) → o ≡ Some call → read_by o pieces ≡ prepend (call ∷ []) (calls_in pieces)
read_by-some None call pieces is = absurd (let no : ⊥ = cc in no)
read_by-some (Some c) call pieces is = by (list_all is_call pieces) (filter_map call_in pieces) (prefix_len is_call pieces)
  where
    same : c ≡ call
    same = cc

    by : (all : Bool) (calls : List Call) (k : ℕ) → cond all (Ok (c ∷ calls)) (Err (1 + (1 + k))) ≡ prepend (call ∷ []) (cond all (Ok calls) (Err (1 + k)))
    by true calls k = ap (λ d. Ok (d ∷ calls)) same
    by false calls k = refl

read_by-none : (o : Option Call) (pieces : List (List ℕ)) → o ≡ None → read_by o pieces ≡ Err 1
read_by-none o pieces e = grind arith

-- the first of the pieces that are left is a call, if it is read as a piece
pub read-next : (all others : Option (Bor (List ℕ))) (rest : Bor (List ℕ)) (cut : List ℕ) (o : Option Piece) (piece : Piece) → all ≡ Some rest
    → spaces rest.now ≡ cut ∷ pieces_left others → o ≡ Some piece → IsRead o (call_in cut)
    → calls_in (pieces_left all) ≡ prepend (piece_call piece ∷ []) (calls_in (pieces_left others))
read-next all others rest cut o piece is cuts some read = grind (arith, read_by-some)

-- it isn't a call, if it isn't read
pub read-stray : (all others : Option (Bor (List ℕ))) (rest : Bor (List ℕ)) (cut : List ℕ) (o : Option Piece) → all ≡ Some rest
    → spaces rest.now ≡ cut ∷ pieces_left others → o ≡ None → IsRead o (call_in cut) → calls_in (pieces_left all) ≡ Err 1
read-stray all others rest cut o is cuts none read = grind (arith, read_by-none)

-- behind some pieces that are calls
pub record AreRead (first place : ℕ) (old new : Result (List Call) ℕ) : Type 0 where
  pub calls : List Call
  pub parts : old ≡ prepend calls new
  pub counted : place ≡ first + length calls

pub none_read : (first : ℕ) (left : Result (List Call) ℕ) → AreRead first first left left
none_read first left = record { calls = []; parts = sym (prepend-nil left); counted = omega arith }

pub one_read : (first place : ℕ) (call : Call) (old new newer : Result (List Call) ℕ) → new ≡ prepend (call ∷ []) newer → AreRead first place old new
    → AreRead first (place + 1) old newer
one_read first place call old new newer next r = record {
  calls = r.calls ++ call ∷ [];
  parts = r.parts ∙ ap (prepend r.calls) next ∙ sym (prepend-append r.calls (call ∷ []) newer);
  counted = omega (arith, r.counted, length-append r.calls (call ∷ []));
}

pub left_some : (all : Option (Bor (List ℕ))) (rest : Bor (List ℕ)) → all ≡ Some rest → left_len all ≡ length rest.now + 1
left_some all rest is = ap left_len is

-- all but the first byte
whole_rest : (back : List ℕ) → take (length back - 1) (drop 1 back) ≡ drop 1 back
whole_rest back = take_all (length back - 1) (drop 1 back) (omega (arith, length-drop 1 back))

-- the pieces of a text that a space cuts
pub cut_first : (text front back : List ℕ) (at : ℕ) → Some at ≡ position (λ b. b == 32) text → front ≡ take at text → back ≡ drop at text
    → spaces text ≡ front ∷ spaces (take (length back - 1) (drop 1 back))
cut_first text front back at e f b =
    let after : take (length back - 1) (drop 1 back) ≡ drop (at + 1) text = whole_rest back ∙ ap (drop 1) b ∙ drop-drop 1 at text in
    cut-there 32 text at (sym e) ∙ ap (λ (p : List ℕ). p ∷ spaces (drop (at + 1) text)) (sym f) ∙ ap (λ (r : List ℕ). front ∷ spaces r) (sym after)

-- the number and the bytes on both sides of the colon
pub raw_parts-cut : (text number rest : List ℕ) (at : ℕ) (count : Option ℕ) (bytes : Option (List ℕ)) → Some at ≡ position (λ b. b == 58) text
    → number ≡ take at text → rest ≡ drop at text → count ≡ number_in number → bytes ≡ bytes_in (take (length rest - 1) (drop 1 rest))
    → raw_call count bytes ≡ raw_parts text (position (λ b. b == 58) text)
raw_parts-cut text number rest at count bytes colon front back n b =
    let behind : take (length rest - 1) (drop 1 rest) ≡ drop (at + 1) text = whole_rest rest ∙ ap (drop 1) back ∙ drop-drop 1 at text in
    ap (λ (o : Option ℕ). raw_call o bytes) (n ∙ ap number_in front) ∙ ap (raw_call (number_in (take at text))) (b ∙ ap bytes_in behind)
    ∙ ap (raw_parts text) colon

-- ---- digits

-- no digit is such a byte
no_digit : (c a : ℕ) → is_hex_digit a ≡ false → IsTrue (is_hex_digit c) → (c == a) ≡ false
no_digit c a other digit = by (c == a) refl
  where
    by : (test : Bool) → test ≡ (c == a) → test ≡ false
    by true is = absurd (let no : false ≡ true = sym other ∙ ap is_hex_digit (sym (eqb-true c a (sym is))) ∙ digit in cc)
    by false is = refl

-- digits don't begin with `0x`
no_prefix : (digits : List ℕ) → IsTrue (list_all is_hex_digit digits) → digits_of digits ≡ digits
no_prefix digits e = grind (arith, and_parts, no_digit, nat_tests)

-- digits, two for each byte, are those of some bytes
pub bytes_of_pairs : (digits : List ℕ) → length digits % 2 ≡ 0 → IsTrue (list_all is_hex_digit digits) → result_ok (decode_of digits) ≡ Some (bytes_of digits)
bytes_of_pairs digits even all =
    let (bytes, is) = decode_of-digits digits even (AllPass-from_list_all is_hex_digit digits all) in
    ap result_ok is ∙ ap (λ r. Some (result_unwrap_or r [])) (sym is)

-- the call of such a piece
pub byte_call : (digits : List ℕ) (byte : ℕ) → length digits % 2 ≡ 0 → IsTrue (list_all is_hex_digit digits) → bytes_of digits ≡ byte ∷ []
    → call_in (100 ∷ 58 ∷ digits) ≡ Some (append (string (byte ∷ [])))
byte_call digits byte even all is = grind (arith, no_prefix, bytes_of_pairs)
