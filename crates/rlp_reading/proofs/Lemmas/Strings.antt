-- The one string that bytes begin with.
use Rattle.std.proofs.{Common.{◌≡◌, ℕ, suc, ◌+◌, ◌-◌, ◌^◌, ◌<◌, ◌≤◌, ⊎_elim, Bool, false, if◌then◌else◌, ltb, leb, List}, lemmas.List.Elements.{recursion_from_All}}
use Rattle.std.proofs.{Common.{[], ◌∷◌, ◌++◌, length, take, drop, get_or, refl, sym, ap, ◌∙◌, subst, arith, Ok, Err, Result, MatchResult}, lemmas.Grind.{common_steps}}
use Rattle.std.proofs.Common.{lt-ltb, ltb-false, leb-false, length-append, length-take-le, append_assoc, take-append-drop}
use Rattle.std.proofs.{Common.take_all, lemmas.Bool.{cases_Bool, cases_lt, cond_both, cond-true, cond-false}, lemmas.Bool.Decides.nat_tests}
use Rattle.std.specs.{Bool.⊤, Int.Digits.number_from_digits}
use Rattle.rlp_format.specs.Format.Encoding.{string, written_header, AreBytes, encoding, string_encoding, is_low_byte}
use Rattle.rlp_format.proofs.{Lemmas.Digits.{big_endian_first, big_endian_value}, Lemmas.Headers.{Parts, shape, written_header_short}}
use Rattle.rlp_format.proofs.Lemmas.Encodings.{low_byte, small_payload, front_sized}
use Rattle.rlp_reading.specs.{declared.error.DecoderError.{DecoderError}, declared.error.DecoderError.TheVariants.{RlpIsTooShort, RlpExpectedToBeData, RlpDataLenWithZeroPrefix}}
use Rattle.rlp_reading.specs.declared.error.DecoderError.TheVariants.{RlpListLenWithZeroPrefix}
use Rattle.rlp_reading.specs.Format.Framing.{IsString, ReadsString, short_string, long_value, long_string, read_string, short_string_fault}
use Rattle.rlp_reading.specs.Format.Framing.{long_string_fault, string_fault, header, long_header, payload_info}
use Rattle.rlp_reading.proofs.Lemmas.Reading.{Bytes, long_whole, header_low, header_string, header_long_string, header_list, header_long_list}

-- the string of a low byte
pub string_low : (first : ℕ) (rest : List ℕ) → first < 0x80 → read_string (first ∷ rest) ≡ Ok (first ∷ [])
unfolding read_string
string_low first rest h = grind (arith, nat_tests)

-- a short string, by its row
pub string_short : (first : ℕ) (rest : List ℕ) → 0x80 ≤ first → first < 0xb8 → read_string (first ∷ rest) ≡ short_string (first - 0x80) rest
unfolding read_string
string_short first rest l h = grind (arith, nat_tests)

-- a long string, by its row
pub string_long : (first : ℕ) (rest : List ℕ) → 0xb8 ≤ first → first < 0xc0 → read_string (first ∷ rest) ≡ long_string (first - 0xb7) rest
unfolding read_string
string_long first rest l h = grind (arith, nat_tests)

-- a list isn't a string
pub string_list : (first : ℕ) (rest : List ℕ) → 0xc0 ≤ first → read_string (first ∷ rest) ≡ Err RlpExpectedToBeData
unfolding read_string
string_list first rest l = grind (arith, nat_tests)

-- ---- the string that stands there is read

parts_read : (n first : ℕ) (digits d more : List ℕ) → Parts 0x80 n first digits → length d ≡ n → is_low_byte d ≡ false → 1 + length digits + n < 2 ^ 64
    → read_string (first ∷ (digits ++ (d ++ more))) ≡ Ok d
parts_read n first digits d more parts l high small =
    grind (arith, common_steps, string_short, big_endian_value, big_endian_first, string_long)

-- a string that stands in front is read
pub string_only : (b d : List ℕ) → length b < 2 ^ 64 → IsString b d → read_string b ≡ Ok d
unfolding encoding
string_only b d fits (more, is) =
    ⊎_elim
    (λ low. let lone = low_byte d low in
    let e : string_encoding d ≡ d = cond-true (is_low_byte d) d (written_header 0x80 (length d) ++ d) low in
    ap read_string (is ∙ ap (λ s. s ++ more) (e ∙ lone.is)) ∙ string_low lone.byte more lone.low ∙ ap Ok (sym lone.is))
    (λ high. let e : string_encoding d ≡ written_header 0x80 (length d) ++ d = cond-false (is_low_byte d) d (written_header 0x80 (length d) ++ d) high in
    let sized : length (string_encoding d) < 2 ^ 64 = front_sized (string d) b more fits is in
    let small : length d < 2 ^ 64 = small_payload 0x80 d (string_encoding d) e sized in
    let s = shape 0x80 (length d) small in
    let whole : 1 + length s.more + length d < 2 ^ 64 = omega (arith, sized, ap length e, length-append (written_header 0x80 (length d)) d, ap length s.is) in
    ap read_string (is ∙ ap (λ s. s ++ more) e ∙ append_assoc (written_header 0x80 (length d)) d more ∙ ap (λ h. h ++ (d ++ more)) s.is)
    ∙ parts_read (length d) s.first s.more d more s.parts refl high whole)
    (cases_Bool (is_low_byte d))

-- ---- what is read stands there

-- opaque, so that `cond_both` finds its arguments
Stands : List ℕ → Result (List ℕ) DecoderError → Type 0
Stands b r = MatchResult r (λ d. IsString b d) (λ _. ⊤)

stands_ok : (b d : List ℕ) → IsString b d → Stands b (Ok d)
unfolding Stands
stands_ok b d is = is

stands_err : (b : List ℕ) (e : DecoderError) → Stands b (Err e)
unfolding Stands
stands_err b e = tt

written_string : (b d more : List ℕ) → is_low_byte d ≡ false → b ≡ written_header 0x80 (length d) ++ (d ++ more) → IsString b d
unfolding encoding
written_string b d more high is =
    let e : string_encoding d ≡ written_header 0x80 (length d) ++ d = cond-false (is_low_byte d) d (written_header 0x80 (length d) ++ d) high in
    (more, is ∙ sym (append_assoc (written_header 0x80 (length d)) d more) ∙ ap (λ s. s ++ more) (sym e))

low_string : (first : ℕ) (rest : List ℕ) → first < 0x80 → IsString (first ∷ rest) (first ∷ [])
unfolding encoding
low_string first rest low =
    (rest, ap (λ s. s ++ rest) (sym (cond-true (ltb first 0x80) (first ∷ []) (written_header 0x80 1 ++ first ∷ []) (lt-ltb _ _ low))))

short_stands : (first n : ℕ) (rest : List ℕ) → first ≡ 0x80 + n → n ≤ 55 → Stands (first ∷ rest) (short_string n rest)
short_stands first n rest is short =
    cond_both (ltb (length rest) n) _ _ (Stands (first ∷ rest)) (λ _. stands_err _ _)
    (λ e. let enough : n ≤ length rest = ltb-false _ _ e in
    let long : length (take n rest) ≡ n = length-take-le n rest enough in
    let head : written_header 0x80 (length (take n rest)) ≡ first ∷ [] = ap (written_header 0x80) long ∙ written_header_short 0x80 n short
    ∙ ap (λ c. c ∷ []) (sym is) in
    cond_both (is_low_byte (take n rest)) _ _ (Stands (first ∷ rest)) (λ _. stands_err _ _)
    (λ high. stands_ok _ _ (written_string (first ∷ rest) (take n rest) (drop n rest) high
    (ap (λ s. first ∷ s) (sym (take-append-drop n rest)) ∙ ap (λ h. h ++ (take n rest ++ drop n rest)) (sym head)))))

not_low : (s : List ℕ) → 1 < length s → is_low_byte s ≡ false
not_low s h = grind arith

value_stands : (first k n second : ℕ) (more : List ℕ) → first ≡ 0x80 + 55 + suc k → suc k ≤ 8 → 0 < second → Bytes (second ∷ more)
    → suc k ≤ length (second ∷ more) → n ≡ number_from_digits 256 (second ∷ take k more) → Stands (first ∷ second ∷ more) (long_value (suc k) n (drop k more))
value_stands first k n second more is few leading bytes enough value =
    let b : List ℕ = first ∷ second ∷ more in
    cond_both (leb n 55) _ _ (Stands (first ∷ second ∷ more)) (λ _. stands_err _ _)
    (λ e. let large : 55 < n = leb-false _ _ e in
    cond_both (ltb (2 ^ 64 - 1) (1 + suc k + n)) _ _ (Stands (first ∷ second ∷ more)) (λ _. stands_err _ _)
    (λ _. cond_both (ltb (length (drop k more)) n) _ _ (Stands (first ∷ second ∷ more)) (λ _. stands_err _ _)
    (λ f. let there : n ≤ length (drop k more) = ltb-false _ _ f in
    let (small, whole, _) = long_whole 0x80 first k n second more is few leading bytes enough value large in
    let d : List ℕ = take n (drop k more) in
    let long : length (take n (drop k more)) ≡ n = length-take-le n (drop k more) there in
    stands_ok _ _
    (written_string (first ∷ second ∷ more) (take n (drop k more)) (drop n (drop k more)) (not_low (take n (drop k more)) (omega arith))
    (sym whole ∙ ap (λ s. written_header 0x80 n ++ s) (sym (take-append-drop n (drop k more)))
    ∙ ap (λ m. written_header 0x80 m ++ (take n (drop k more) ++ drop n (drop k more))) (sym long))))))

long_stands : (first k : ℕ) (rest : List ℕ) → first ≡ 0x80 + 55 + suc k → suc k ≤ 8 → Bytes rest → Stands (first ∷ rest) (long_string (suc k) rest)
long_stands first k rest is few bytes = grind (arith, stands_err, value_stands)

first_stands : (first : ℕ) (rest : List ℕ) → Bytes rest → Stands (first ∷ rest) (read_string (first ∷ rest))
first_stands first rest bytes =
    let at = λ (r : Result (List ℕ) DecoderError) (e : read_string (first ∷ rest) ≡ r) (is : Stands (first ∷ rest) r). subst (Stands (first ∷ rest))
    (sym e) is in
    ⊎_elim (λ below. at _ (string_low first rest below) (stands_ok _ _ (low_string first rest below)))
    (λ from80. ⊎_elim (λ below. at _ (string_short first rest from80 below) (short_stands first (first - 0x80) rest (omega arith) (omega arith)))
    (λ fromb8. ⊎_elim
    (λ below. let k : first - 0xb7 ≡ suc (first - 0xb8) = omega arith in
    at _ (string_long first rest fromb8 below ∙ ap (λ k. long_string k rest) k) (long_stands first (first - 0xb8) rest (omega arith) (omega arith) bytes))
    (λ fromc0. at _ (string_list first rest fromc0) (stands_err _ _))
    (cases_lt first 0xc0)) (cases_lt first 0xb8)) (cases_lt first 0x80)

stands : (b : List ℕ) → Bytes b → Stands b (read_string b)
unfolding read_string
stands b bytes = grind (arith, stands_err, first_stands)

-- ---- the fault is the first that applies

cond_fault : (b : Bool) (r s : Result (List ℕ) DecoderError) (e f g : DecoderError) → (r ≡ Err e → e ≡ f) → (s ≡ Err e → e ≡ g)
    → (if b then r else s) ≡ Err e → e ≡ (if b then f else g)
cond_fault b r s e f g then_f else_g is = grind arith

fault_same : (e f : DecoderError) → (let r : Result (List ℕ) DecoderError = Err f in r) ≡ Err e → e ≡ f
fault_same e f is = cc

cond_ok : (b : Bool) (d : List ℕ) (s : Result (List ℕ) DecoderError) (e : DecoderError) → (if b then Ok d else s) ≡ Err e → s ≡ Err e
cond_ok b d s e is = grind arith

short_fault : (n : ℕ) (rest : List ℕ) (e : DecoderError) → short_string n rest ≡ Err e → e ≡ short_string_fault n rest
short_fault n rest e = grind arith

long_fault : (k : ℕ) (rest : List ℕ) (e : DecoderError) → long_string k rest ≡ Err e → e ≡ long_string_fault k rest
long_fault k rest e = grind arith

fault_read : (b : List ℕ) (e : DecoderError) → read_string b ≡ Err e → e ≡ string_fault b
unfolding read_string
fault_read [] e is = fault_same e RlpIsTooShort is
fault_read (first ∷ rest) e is =
    cond_fault (ltb first 0xb8) _ _ e _ _ (short_fault (first - 0x80) rest e)
    (cond_fault (ltb first 0xc0) _ _ e _ _ (long_fault (first - 0xb7) rest e) (fault_same e RlpExpectedToBeData))
    (cond_ok (ltb first 0x80) (first ∷ []) _ e is)

answer_from : (b : List ℕ) (r : Result (List ℕ) DecoderError) → length b < 2 ^ 64 → read_string b ≡ r → Stands b r → ReadsString b r
unfolding Stands
answer_from b (Ok d) fits is there = there
answer_from b (Err e) fits is there = ((λ d has. let same = sym (string_only b d fits has) ∙ is in cc), fault_read b e is)

-- `read_string` gives the string in front, or the fault where none is
pub string_reads : (b : List ℕ) → AreBytes b → length b < 2 ^ 64 → ReadsString b (read_string b)
string_reads b bytes fits = answer_from b (read_string b) fits refl (stands b (recursion_from_All (λ byte. byte < 2 ^ 8) b bytes))

-- ---- headers and strings, by the first of some bytes

pub first_low : (b : List ℕ) → 1 ≤ length b → get_or b 0 0 ≤ 0x7f → Ok (payload_info 0 1) ≡ header b
first_low b some low = grind (arith, common_steps, header_low)

pub first_string : (b : List ℕ) → 1 ≤ length b → 0x80 ≤ get_or b 0 0 → get_or b 0 0 ≤ 0xb7 → Ok (payload_info 1 (get_or b 0 0 - 0x80)) ≡ header b
first_string b some from to = grind (arith, common_steps, header_string)

pub first_long_string : (b : List ℕ) → 1 ≤ length b → 0xb8 ≤ get_or b 0 0 → get_or b 0 0 ≤ 0xbf
    → long_header RlpDataLenWithZeroPrefix (get_or b 0 0 - 0xb7) (take (length b - 1) (drop 1 b)) ≡ header b
first_long_string b some from to = grind (arith, take_all, header_long_string)

pub first_list : (b : List ℕ) → 1 ≤ length b → 0xc0 ≤ get_or b 0 0 → get_or b 0 0 ≤ 0xf7 → Ok (payload_info 1 (get_or b 0 0 - 0xc0)) ≡ header b
first_list b some from to = grind (arith, common_steps, header_list)

pub first_long_list : (b : List ℕ) → 1 ≤ length b → 0xf8 ≤ get_or b 0 0
    → long_header RlpListLenWithZeroPrefix (get_or b 0 0 - 0xf7) (take (length b - 1) (drop 1 b)) ≡ header b
first_long_list b some from = grind (arith, take_all, header_long_list)

pub alone : (b : List ℕ) → 1 ≤ length b → get_or b 0 0 ≤ 0x7f → read_string b ≡ Ok (take 1 b)
alone b some low = grind (arith, string_low)

pub no_string : (b : List ℕ) → 1 ≤ length b → 0xc0 ≤ get_or b 0 0 → read_string b ≡ Err RlpExpectedToBeData
no_string b some from = grind (arith, common_steps, string_list)

pub short_after : (b : List ℕ) → 1 ≤ length b → 0x80 ≤ get_or b 0 0 → get_or b 0 0 ≤ 0xb7
    → read_string b ≡ short_string (get_or b 0 0 - 0x80) (take (length b - 1) (drop 1 b))
short_after b some from to = grind (arith, string_short, take_all)

pub long_after : (b : List ℕ) → 1 ≤ length b → 0xb8 ≤ get_or b 0 0 → get_or b 0 0 ≤ 0xbf
    → read_string b ≡ long_string (get_or b 0 0 - 0xb7) (take (length b - 1) (drop 1 b))
long_after b some from to = grind (arith, string_long, take_all)

pub ruleset first_headers = (first_low, first_string, first_list, first_long_string, first_long_list)

pub ruleset first_strings = (alone, no_string, short_after, long_after)
