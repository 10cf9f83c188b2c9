-- Headers and strings that are written.
use Rattle.std.proofs.Common.{◌≡◌, ℕ, ◌+◌, ◌-◌, ◌/◌, ◌%◌, ◌<◌, ◌≤◌, List, ◌∷◌, [], ◌++◌, length, take, drop, length-append, length-drop, append-nil, true}
use Rattle.std.proofs.{Common.{false, refl, ap, ◌∙◌, arith, add-one, append_assoc}, lemmas.Bool.Decides.nat_tests}
use Rattle.std.proofs.{lemmas.Bool.{cond-true, cond-false}, lemmas.List.{drop-set, take_at, drop_at, drop_all, take-append-drop, take_all}}
use Rattle.std.specs.Prelude.{slice_set}
use Rattle.rlp_format.specs.{Format.Encoding.{string, big_endian, written_header, encoding, is_low_byte, BeginsWith}, Values.Value.number_item}
use Rattle.rlp_write.proofs.Streams.Closings.{follows}
use Rattle.rlp_format.proofs.{Lemmas.Digits.{big_endian_digit, big_endian_step}, Lemmas.Headers.{written_header_short, written_header_long}}

-- a string that is its own encoding
pub encoding_low : (s : List ℕ) → is_low_byte s ≡ true → encoding (string s) ≡ s
unfolding encoding
encoding_low s e = cond-true (is_low_byte s) s (written_header 0x80 (length s) ++ s) e

-- a number that is its own encoding
pub encoding_digit : (n : ℕ) → 0 < n → n < 0x80 → encoding (number_item n) ≡ n ∷ []
unfolding big_endian
encoding_digit n some low = grind (arith, big_endian_step, nat_tests, encoding_low)

-- any other string
pub encoding_other : (s : List ℕ) → is_low_byte s ≡ false → encoding (string s) ≡ written_header 0x80 (length s) ++ s
unfolding encoding
encoding_other s e = cond-false (is_low_byte s) s (written_header 0x80 (length s) ++ s) e

-- the first byte of a long header, before the digits
pub header_set : (base n zeros first : ℕ) (bytes : List ℕ) → 55 < n → drop zeros bytes ≡ big_endian n → zeros + length (big_endian n) ≡ 8
    → zeros ≤ length bytes → first ≡ base + 55 + (8 - zeros)
    → drop zeros (slice_set (0 ∷ bytes) zeros first) ≡ written_header base n
header_set base n zeros first bytes long digits len within is = grind (arith, add-one, drop-set, written_header_long)

-- the header and the string, one after the other behind the old bytes
pub string_written : (old value header : List ℕ) {first second new : List ℕ} → is_low_byte value ≡ false → header ≡ written_header 0x80 (length value)
    → first ≡ old → second ≡ first ++ header → new ≡ second ++ value → old ++ encoding (string value) ≡ new
string_written old value header other heads same headed is = grind (arith, encoding_other, append_assoc)

-- a part is inserted at a place from which the bytes were moved further
pub inserted : (b part moved : List ℕ) (at n : ℕ) → n + at + length part ≡ length b
    → moved ≡ take (at + length part) b ++ (take n (drop at b) ++ drop ((at + length part) + n) b)
    → take at moved ++ (part ++ drop (at + length part) moved) ≡ take at b ++ (part ++ take n (drop at b))
inserted b part moved at n all is =
    let last : drop ((at + length part) + n) b ≡ [] = drop_all ((at + length part) + n) b (omega (arith, all)) in
    let now = follows (at + length part) b (take n (drop at b) ++ drop ((at + length part) + n) b) moved (omega (arith, all)) is in
    rw (now.front at (omega arith), now.rest, last, append-nil) refl

-- a slice from a place on
pub rest_from : (b : List ℕ) (start : ℕ) → take (length b - start) (drop start b) ≡ drop start b
rest_from b start = take_all (length b - start) (drop start b) (omega (arith, length-drop start b))

-- a string that is its own encoding needs no header
pub header_none : (b : List ℕ) (start : ℕ) → is_low_byte (drop start b) ≡ true → take start b ++ encoding (string (drop start b)) ≡ b
header_none b start low = ap (λ z. take start b ++ z) (encoding_low (drop start b) low) ∙ take-append-drop start b

-- the length of an encoding with a header
pub encoding_length : (s : List ℕ) → is_low_byte s ≡ false → length (encoding (string s)) ≡ length (written_header 0x80 (length s)) + length s
encoding_length s other = ap length (encoding_other s other) ∙ length-append (written_header 0x80 (length s)) s

-- a header is written over the bytes in front of a place
pub header_placed : (b view new header : List ℕ) (payload : ℕ) → b ≡ view
    → new ≡ take (payload - length header) b ++ (header ++ drop ((payload - length header) + length header) b)
    → payload ≤ length view → length header ≤ payload
    → take (length b) (new ++ drop (length new) b) ≡ take (payload - length header) view ++ (header ++ drop payload view)
header_placed b view new header payload same is within room =
    let begin : ℕ = payload - length header in
    let rest : List ℕ = drop (begin + length header) b in
    let now = follows begin b (header ++ rest) new (omega (arith, within, ap length same)) is in
    let size : length new ≡ length b =
    omega (arith, now.len, length-append header rest, length-drop (begin + length header) b, within, room, ap length same) in
    let place : begin + length header ≡ payload = omega (arith, room) in
    take_at new (drop (length new) b) (length b) size ∙ is ∙ rw (place, same) refl

-- the header of a list whose length has one byte
pub list_header_one : (n : ℕ) → 55 < n → n < 256 → written_header 0xc0 n ≡ 0xf8 ∷ n ∷ []
list_header_one n long small = grind (arith, written_header_long, big_endian_digit)

-- and of a list whose length has two bytes
pub list_header_two : (n : ℕ) → 255 < n → n < 65536 → written_header 0xc0 n ≡ 0xf9 ∷ n / 256 ∷ n % 256 ∷ []
list_header_two n long small =
    let digits : big_endian n ≡ n / 256 ∷ n % 256 ∷ [] =
    big_endian_step n (omega arith) ∙ ap (λ (front : List ℕ). front ++ n % 256 ∷ []) (big_endian_digit (n / 256) (omega arith) (omega arith)) in
    written_header_long 0xc0 n (omega arith) ∙ rw digits refl

-- the bytes of a string were put after the old ones, and then its header was inserted
pub parts_written : (old mid new : List ℕ) (start : ℕ) (Gives : List ℕ → Type 0) → (s : List ℕ) × Gives s × (mid ≡ old ++ s) → start ≡ length old
    → new ≡ take start mid ++ encoding (string (drop start mid)) → (s : List ℕ) × Gives s × (new ≡ old ++ encoding (string s))
parts_written old mid new start Gives (s, gives, put) at is = grind (arith, take_at, drop_at)

-- if that is refused, they still begin with the old ones
pub parts_left : (old mid new : List ℕ) (Gives : List ℕ → Type 0) → (s : List ℕ) × Gives s × (mid ≡ old ++ s) → new ≡ mid → BeginsWith new old
parts_left old mid new Gives (s, gives, put) same = (s, same ∙ put)

-- bytes that begin with the old ones
pub begins_still : (old more : List ℕ) {mid new : List ℕ} → mid ≡ old ++ more → new ≡ mid → BeginsWith new old
begins_still old more put same = (more, same ∙ put)

pub ruleset written = (encoding_low, encoding_other, written_header_short, header_set)

pub ruleset list_headers = (written_header_short, list_header_one, list_header_two)

pub ruleset parts = (parts_written, parts_left)

pub ruleset strings = (encoding_low, encoding_length, string_written, written_header_short)

pub ruleset from_place = (encoding_other, header_none, rest_from)

pub ruleset lengths = (written_header_short, written_header_long)
