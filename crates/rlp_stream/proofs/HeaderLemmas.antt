-- Headers that are read byte by byte.
use Rattle.std.proofs.Common.{ℕ, ◌≡◌, ◌<◌, ◌≤◌, ◌+◌, get_or, List, [], ◌∷◌, ◌++◌, length, take, sym, ap, ◌∙◌, subst, arith, append-nil, length-append, Option, Result, IfOk}
use Rattle.std.proofs.{lemmas.Bool.Decides.nat_tests, lemmas.List.take-append-le}
use Rattle.rlp_reading.specs.{declared.error.DecoderError.DecoderError, declared.header.PayloadInfo.PayloadInfo}
use Rattle.rlp_reading.specs.Format.Framing.{announced, header, long_header}
use Rattle.rlp_reading.proofs.Lemmas.Reading.{header_low, header_string, header_long_string, header_list, header_long_list}
use Rattle.rlp_stream.specs.Pieces.{AppendsRead, IsHeaderAlone, IsSettled}

ruleset headers = (header_low, header_string, header_long_string, header_list, header_long_list)

-- a whole length doesn't depend on what follows
long_header-settled : (zero_fault : DecoderError) (k : ℕ) (rest more : List ℕ) → 0 < k → k ≤ length rest
    → long_header zero_fault k (rest ++ more) ≡ long_header zero_fault k rest
long_header-settled zero_fault k [] more some enough = absurd (omega arith)
long_header-settled zero_fault k (second ∷ rest) more some enough =
    let same : take k (second ∷ rest ++ more) ≡ take k (second ∷ rest) = take-append-le k (second ∷ rest) more enough in
    grind (arith, nat_tests, length-append, same)

-- a whole header doesn't depend on what follows
pub header-settled : (first : ℕ) (rest more : List ℕ) → announced first ≤ length rest → IsSettled (first ∷ rest) more
header-settled first rest more enough = grind (arith, nat_tests, headers, long_header-settled)

-- what was read for this header is the header alone
abbrev pub Within : List ℕ → Result PayloadInfo DecoderError → Type 0
Within b r = IfOk r (IsHeaderAlone b)

long_header-within : (zero_fault : DecoderError) (k first : ℕ) (rest : List ℕ) → length rest ≤ k → Within (first ∷ rest) (long_header zero_fault k rest)
long_header-within zero_fault k first [] short = tt
long_header-within zero_fault k first (second ∷ rest) short = grind (arith, nat_tests)

-- if no more bytes are read than the first one announces, no byte of the value is read
pub header-short : (first : ℕ) (rest : List ℕ) → length rest ≤ announced first → Within (first ∷ rest) (header (first ∷ rest))
header-short first rest short = grind (arith, nat_tests, headers, long_header-within)

-- ---- what is read after the first byte

pub first_of : (b : List ℕ) (first : ℕ) → length b ≡ 1 → first ≡ get_or b 0 first → b ≡ first ∷ []
first_of [] first one is = absurd (omega arith)
first_of (byte ∷ []) first one is = ap (λ x. x ∷ []) (sym is)
first_of (byte ∷ other ∷ b) first one is = absurd (omega arith)

-- the same after the first byte was read
pub short-read : (in1 in2 : Option (List ℕ)) (b after : List ℕ) (first k : ℕ) → length b ≡ 1 → first ≡ get_or b 0 first → k ≡ announced first
    → AppendsRead in1 in2 b after → length after ≤ 1 + k → Within after (header after)
short-read in1 in2 b after first k one is k_is read short =
    let parts : after ≡ first ∷ read.more = read.bytes ∙ ap (λ l. l ++ read.more) (first_of b first one is) in
    subst (λ l. Within l (header l)) (sym parts) (header-short first read.more (omega (arith, ap length parts)))

pub ruleset header_steps = (header-settled, header-short, append-nil, first_of)
