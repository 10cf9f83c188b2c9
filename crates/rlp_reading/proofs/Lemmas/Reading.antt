-- `header` gives the one header that stands at the front, and the fault where none does.
use Rattle.std.proofs.{Common.{◌≡◌, ℕ, suc, ◌+◌, ◌-◌, ◌^◌, ◌<◌, ◌≤◌, inl, inr, ⊎_elim, List, [], ◌∷◌, ◌++◌, length, take, get_or, refl, sym, ap}, lemmas.Grind.{common_steps}}
use Rattle.std.proofs.{Common.{◌∙◌, subst, arith, Ok, Result, ◌==◌, leb, ltb, MatchResult, ◌≢◌, length-take-le, take-append-drop, drop, ltb-true, ltb-false, eqb-true, leb-false}}
use Rattle.std.proofs.{lemmas.Bool.Decides.nat_tests, lemmas.Bool.{cases_lt, cond_both, eqb-false}, Math.Nat.pow-le-pow_right}
use Rattle.std.proofs.{lemmas.List.Elements.recursion_from_All, lemmas.Int.Digits.number_lt}
use Rattle.std.specs.{List.AllByRecursion, Int.Digits.number_from_digits}
-- what a slice of `u8` holds, passed on
pub use Rattle.rlp_format.proofs.Lemmas.Digits.{bytes_held}
use Rattle.rlp_reading.specs.{declared.error.DecoderError.DecoderError, declared.header.PayloadInfo.PayloadInfo}
use Rattle.rlp_reading.specs.declared.error.DecoderError.TheVariants.{RlpDataLenWithZeroPrefix, RlpListLenWithZeroPrefix}
use Rattle.rlp_reading.specs.Format.Framing.{HasHeader, lone, written, header, long_header, header_fault, announced, ReadsHeader, payload_info}
use Rattle.rlp_format.specs.Format.Encoding.{big_endian, written_header, IsBase, AreBytes}
use Rattle.rlp_format.proofs.{Lemmas.Digits.{big_endian_value, big_endian_first, big_endian_again}, Lemmas.Headers.{shape, Parts, written_header_short, written_header_long}}

-- the header of a low byte
pub header_low : (first : ℕ) (rest : List ℕ) → first < 0x80 → header (first ∷ rest) ≡ Ok (payload_info 0 1)
unfolding header
header_low first rest h = grind (arith, nat_tests)

-- the header of a short string
pub header_string : (first : ℕ) (rest : List ℕ) → 0x80 ≤ first → first < 0xb8 → header (first ∷ rest) ≡ Ok (payload_info 1 (first - 0x80))
unfolding header
header_string first rest l h = grind (arith, nat_tests)

-- the header of a long string
pub header_long_string : (first : ℕ) (rest : List ℕ) → 0xb8 ≤ first → first < 0xc0
    → header (first ∷ rest) ≡ long_header RlpDataLenWithZeroPrefix (first - 0xb7) rest
unfolding header
header_long_string first rest l h = grind (arith, nat_tests)

-- the header of a short list
pub header_list : (first : ℕ) (rest : List ℕ) → 0xc0 ≤ first → first < 0xf8 → header (first ∷ rest) ≡ Ok (payload_info 1 (first - 0xc0))
unfolding header
header_list first rest l h = grind (arith, nat_tests)

-- the header of a long list
pub header_long_list : (first : ℕ) (rest : List ℕ) → 0xf8 ≤ first → header (first ∷ rest) ≡ long_header RlpListLenWithZeroPrefix (first - 0xf7) rest
unfolding header
header_long_list first rest l = grind (arith, nat_tests)

ruleset headers = (header_string, header_list, header_long_string, header_long_list)

-- ---- where a header stands, it is read

-- a long header that stands in front is read
pub long_header_is : (zero_fault : DecoderError) (k : ℕ) (digits rest : List ℕ) → length digits ≡ k → 0 < get_or digits 0 0 → 55 < number_from_digits 256 digits
    → long_header zero_fault k (digits ++ rest) ≡ Ok (payload_info (1 + k) (number_from_digits 256 digits))
long_header_is zero_fault k digits rest l first large = grind (arith, common_steps)

read_parts : (base n first : ℕ) (more rest : List ℕ) → IsBase base → Parts base n first more
    → header (first ∷ (more ++ rest)) ≡ Ok (payload_info (1 + length more) n)
read_parts base n first more rest is_base parts =
    grind (arith, headers, big_endian_value, big_endian_first, long_header_is)

-- a header that was written is read
pub read_written : (base n : ℕ) (rest : List ℕ) → IsBase base → n < 2 ^ 64
    → header (written_header base n ++ rest) ≡ Ok (payload_info (length (written_header base n)) n)
read_written base n rest b small =
    let s = shape base n small in
    let one : length (s.first ∷ s.more) ≡ 1 + length s.more = omega arith in
    ap (λ h. header (h ++ rest)) s.is ∙ read_parts base n s.first s.more rest b s.parts ∙ ap (λ l. Ok (payload_info l n)) (sym one ∙ ap length (sym s.is))

-- the header that stands at the front is read
pub read : {b : List ℕ} {h n : ℕ} → HasHeader b h n → header b ≡ Ok (payload_info h n)
read has = grind (arith, header_low, read_written)

-- so there is only one
pub header_unique : (b : List ℕ) (h1 n1 h2 n2 : ℕ) → HasHeader b h1 n1 → HasHeader b h2 n2 → (h1 ≡ h2) × (n1 ≡ n2)
header_unique b h1 n1 h2 n2 one two = grind (arith, read)

-- ---- what is read stands there

-- the answer of `header`: a header that stands in front, or the fault of none
abbrev pub Row : List ℕ → Result PayloadInfo DecoderError → Type 0
Row b r = MatchResult r (λ p. HasHeader b p.header_len p.value_len) (λ e. e ≡ header_fault b)

announced_string : (first : ℕ) → first < 0xc0 → announced first ≡ first - 0xb7
announced_string first h = grind (arith, nat_tests)

announced_list : (first : ℕ) → 0xc0 ≤ first → announced first ≡ first - 0xf7
announced_list first h = grind (arith, nat_tests)

-- `AreBytes`, by recursion
abbrev pub Bytes : List ℕ → Type 0
Bytes b = AllByRecursion (λ byte. byte < 2 ^ 8) b

take_bytes : (k : ℕ) (s : List ℕ) → Bytes s → Bytes (take k s)
take_bytes k s h = grind (arith, common_steps)

long_hdr : (base n first k : ℕ) (digits : List ℕ) → big_endian n ≡ digits → 55 < n → length digits ≡ k → first ≡ base + 55 + k
    → written_header base n ≡ first ∷ digits
long_hdr base n first k digits e large l is = grind (arith, written_header_long)

-- the k bytes after a first byte that announces them, and more
pub long_whole : (base first k n second : ℕ) (more : List ℕ) → first ≡ base + 55 + suc k → suc k ≤ 8 → 0 < second → Bytes (second ∷ more)
    → suc k ≤ length (second ∷ more) → n ≡ number_from_digits 256 (second ∷ take k more) → 55 < n
    → (n < 2 ^ 64) × (written_header base n ++ drop k more ≡ first ∷ second ∷ more) × (length (written_header base n) ≡ 1 + suc k)
long_whole base first k n second more is few leading (low, bytes) enough value large =
    let below : number_from_digits 256 (second ∷ take k more) < 256 ^ length (second ∷ take k more) =
    number_lt 256 (second ∷ take k more) (low, take_bytes k more bytes) in
    grind (arith, big_endian_again, take_bytes, length-take-le, pow-le-pow_right, long_hdr, take-append-drop)

long_has : (base first k n second : ℕ) (more : List ℕ) → IsBase base → first ≡ base + 55 + suc k → suc k ≤ 8 → 0 < second → Bytes (second ∷ more)
    → suc k ≤ length (second ∷ more) → n ≡ number_from_digits 256 (second ∷ take k more) → 55 < n
    → HasHeader (first ∷ second ∷ more) (1 + suc k) n
long_has base first k n second more b is few leading bytes enough value large =
    let (small, whole, header_len) = long_whole base first k n second more is few leading bytes enough value large in
    let has : HasHeader (written_header base n ++ drop k more) (length (written_header base n)) n = written base n (drop k more) b small in
    subst (λ h. HasHeader (first ∷ second ∷ more) h n) header_len (subst (λ b. HasHeader b (length (written_header base n)) n) whole has)

-- a header of one byte
pub short_has : (base first n : ℕ) (rest : List ℕ) → IsBase base → first ≡ base + n → n ≤ 55 → HasHeader (first ∷ rest) 1 n
short_has base first n rest b is short =
    let has : HasHeader (written_header base n ++ rest) (length (written_header base n)) n = written base n rest b (omega arith) in
    grind (arith, written_header_short)

long_row : (base first k second : ℕ) (zero_fault : DecoderError) (more : List ℕ) → IsBase base → first ≡ base + 55 + suc k → suc k ≤ 8 → announced first ≡ suc k
    → Bytes (second ∷ more) → (second ≡ 0 → zero_fault ≡ header_fault (first ∷ second ∷ more))
    → Row (first ∷ second ∷ more) (long_header zero_fault (suc k) (second ∷ more))
long_row base first k second zero_fault more b is few says bytes zero_case =
    cond_both (second == 0) _ _ (Row (first ∷ second ∷ more))
    (λ e. zero_case (eqb-true second 0 e))
    (λ e. let nonzero : second ≢ 0 = eqb-false second 0 e in
    cond_both (ltb (length (second ∷ more)) (suc k)) _ _ (Row (first ∷ second ∷ more))
    (λ e. let short : length (second ∷ more) < suc k = ltb-true _ _ e in grind (arith, nat_tests))
    (λ e. let enough : suc k ≤ length (second ∷ more) = ltb-false _ _ e in
    cond_both (leb (number_from_digits 256 (second ∷ take k more)) 55) _ _ (Row (first ∷ second ∷ more))
    (λ e. grind (arith, nat_tests))
    (λ e. long_has base first k (number_from_digits 256 (second ∷ take k more)) second more b is few (omega arith) bytes enough refl (leb-false _ _ e))))

long_rows : (base first k : ℕ) (zero_fault : DecoderError) (rest : List ℕ) → IsBase base → first ≡ base + 55 + suc k → suc k ≤ 8 → announced first ≡ suc k
    → Bytes rest → ((second : ℕ) (more : List ℕ) → second ≡ 0 → zero_fault ≡ header_fault (first ∷ second ∷ more))
    → Row (first ∷ rest) (long_header zero_fault (suc k) rest)
long_rows base first k zero_fault [] b is few says bytes zero_case = refl
long_rows base first k zero_fault (second ∷ more) b is few says bytes zero_case =
    long_row base first k second zero_fault more b is few says bytes (zero_case second more)

string_row : (first : ℕ) (rest : List ℕ) → 0xb8 ≤ first → first < 0xc0 → Bytes rest
    → Row (first ∷ rest) (long_header RlpDataLenWithZeroPrefix (first - 0xb7) rest)
string_row first rest l h bytes =
    let k : first - 0xb7 ≡ suc (first - 0xb8) = omega arith in
    rw k (long_rows 0x80 first (first - 0xb8) RlpDataLenWithZeroPrefix rest (inl refl) (omega arith) (omega arith)
    (announced_string first h ∙ k) bytes (λ second more z. grind (arith, nat_tests)))

list_row : (first : ℕ) (rest : List ℕ) → 0xf8 ≤ first → first < 256 → Bytes rest → Row (first ∷ rest) (long_header RlpListLenWithZeroPrefix (first - 0xf7) rest)
list_row first rest l h bytes =
    let k : first - 0xf7 ≡ suc (first - 0xf8) = omega arith in
    rw k (long_rows 0xc0 first (first - 0xf8) RlpListLenWithZeroPrefix rest (inr refl) (omega arith) (omega arith)
    (announced_list first (omega arith) ∙ k) bytes (λ second more z. grind (arith, nat_tests)))

first_row : (first : ℕ) (rest : List ℕ) → first < 256 → Bytes rest → Row (first ∷ rest) (header (first ∷ rest))
first_row first rest low bytes =
    let at = λ (r : Result PayloadInfo DecoderError) (e : header (first ∷ rest) ≡ r) (is : Row (first ∷ rest) r). subst (Row (first ∷ rest)) (sym e) is in
    ⊎_elim (λ below. at _ (header_low first rest below) (lone first rest below))
    (λ from80. ⊎_elim (λ below. at _ (header_string first rest from80 below) (short_has 0x80 first (first - 0x80) rest (inl refl) (omega arith) (omega arith)))
    (λ fromb8. ⊎_elim (λ below. at _ (header_long_string first rest fromb8 below) (string_row first rest fromb8 below bytes))
    (λ fromc0. ⊎_elim (λ below. at _ (header_list first rest fromc0 below) (short_has 0xc0 first (first - 0xc0) rest (inr refl) (omega arith) (omega arith)))
    (λ fromf8. at _ (header_long_list first rest fromf8) (list_row first rest fromf8 low bytes))
    (cases_lt first 0xf8)) (cases_lt first 0xc0)) (cases_lt first 0xb8)) (cases_lt first 0x80)

row : (b : List ℕ) → Bytes b → Row b (header b)
unfolding header
row b bytes = grind (arith, first_row)

reads_from : (b : List ℕ) (r : Result PayloadInfo DecoderError) → header b ≡ r → Row b r → ReadsHeader b r
reads_from b r e is = grind (arith, read)

-- `header` gives the header that stands at the front of bytes, or why none does
pub header_reads : (b : List ℕ) → AreBytes b → ReadsHeader b (header b)
header_reads b bytes = reads_from b (header b) refl (row b (recursion_from_All (λ byte. byte < 2 ^ 8) b bytes))

-- ---- the elements of a string are bytes

-- the first elements of a list of bytes are bytes
pub front_bytes : (s t : List ℕ) → Bytes (s ++ t) → Bytes s
front_bytes [] t h = tt
front_bytes (c ∷ s) t (low, h) = (low, front_bytes s t h)

-- so are the elements after them
pub back_bytes : (s t : List ℕ) → Bytes (s ++ t) → Bytes t
back_bytes [] t h = h
back_bytes (c ∷ s) t (low, h) = back_bytes s t h
