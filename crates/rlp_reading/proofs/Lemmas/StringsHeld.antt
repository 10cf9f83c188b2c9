-- What a lenient or a strict view holds, and the string or the number that is read from it.
use Rattle.std.proofs.Common.{◌≡◌, ℕ, zero, suc, ◌^◌, ◌<◌, ◌≤◌, ◌+◌, ◌-◌, ⊎_elim, Bool, true, false, IsTrue, if◌then◌else◌, ltb, List, [], ◌∷◌, ◌++◌, length}
use Rattle.std.proofs.Common.{take, drop, get_or, refl, sym, ap, ◌∙◌, subst, arith, append-nil, length-append, length-take-le, take_all, take-append-drop}
use Rattle.std.proofs.{Common.{le-ltb, lt-ltb, Result, Ok, Err, MatchResult, IfErr, ◌≢◌, pos_of_ne-zero, replicate, Fits, w8}, lemmas.Grind.{common_steps}}
use Rattle.std.proofs.{lemmas.Bool.{cases_lt, cond-true, cond-false}, lemmas.List.Elements.All-from_recursion, lemmas.Int.Digits.length-digits_of-le}
use Rattle.std.specs.Int.Digits.{number_from_digits}
use Rattle.rlp_format.specs.{Format.Encoding.{Item, string, AreBytes, written_header, encoding, is_low_byte, BeginsWith, IsSized, big_endian}, Values.Value.{FitsBytes}}
use Rattle.rlp_format.proofs.{Lemmas.Encodings.{front_sized, string_cases}, Lemmas.Headers.written_header_short}
use Rattle.rlp_format.proofs.Lemmas.Digits.{bytes_held, digits_fit, digits_again, big_endian_is, pow-bytes}
use Rattle.rlp_reading.specs.{declared.error.DecoderError.DecoderError, declared.error.DecoderError.TheVariants.RlpIsTooBig}
use Rattle.rlp_reading.specs.Format.Framing.{HasHeader, ReadsString, read_string, is_followed, is_longer, whole_string}
use Rattle.rlp_reading.specs.{Views.View.{View, Holds, HoldsItem, HoldsNoString, HoldsString, view_string}, Values.ValueReading.{GivesNumber}}
use Rattle.rlp_reading.proofs.{Lemmas.Frames.{encoding_item, framing_is, longer}, Lemmas.Strings.{string_only, string_reads}}

begins_by : (strict : Bool) (b s : List ℕ) → Holds strict b s → BeginsWith b s
begins_by strict b s holds = grind (arith, append-nil)

-- a view begins with the item that it holds
pub held_begins : (v : View) (x : Item) → HoldsItem v x → BeginsWith v.bytes (encoding x)
held_begins v x holds = begins_by v.is_strict v.bytes (encoding x) holds

read_by : (strict : Bool) (b d : List ℕ) → length b < 2 ^ 64 → Holds strict b (encoding (string d))
    → (if strict then whole_string b (read_string b) else read_string b) ≡ Ok d
read_by false b d fits holds = string_only b d fits holds
read_by true b d fits holds = ap (whole_string b) (string_only b d fits (begins_by true b (encoding (string d)) holds))
    ∙ cond-false (ltb (length (encoding (string d))) (length b)) _ _ (le-ltb _ _ (omega (arith, ap length holds)))

-- the string that a view holds is read
pub held_only : (v : View) (d : List ℕ) → length v.bytes < 2 ^ 64 → HoldsString v d → view_string v ≡ Ok d
held_only v d fits holds = read_by v.is_strict v.bytes d fits holds

pub held_read : (v : View) (d : List ℕ) (e : DecoderError) → length v.bytes < 2 ^ 64 → HoldsString v d → view_string v ≡ Err e → ⊥
held_read v d e fits holds is = let same : Ok d ≡ Err e = sym (held_only v d fits holds) ∙ is in cc

-- the right result for the string of bytes that are read as this
abbrev pub ReadsHeld : Bool → List ℕ → Result (List ℕ) DecoderError → Type 0
ReadsHeld strict b r = MatchResult r (λ d. Holds strict b (encoding (string d))) (λ e. (d : List ℕ) → ¬ Holds strict b (encoding (string d)))

none_after : (b more s : List ℕ) → b ≡ s ++ more → length b ≤ length s → b ≡ s
none_after b more s is few = grind (arith, common_steps)

whole_reads : (b : List ℕ) (r : Result (List ℕ) DecoderError) → length b < 2 ^ 64 → ReadsString b r → ReadsHeld true b (whole_string b r)
whole_reads b (Err e) fits (none, same) = λ d is. none d ([], is ∙ sym (append-nil (encoding (string d))))
whole_reads b (Ok d) fits (more, is) =
    ⊎_elim
    (λ longer. subst (ReadsHeld true b) (sym (cond-true (ltb (length (encoding (string d))) (length b)) (Err RlpIsTooBig) (Ok d) (lt-ltb _ _ longer)))
    (λ s whole. let same : Ok d ≡ Ok s = sym (string_only b d fits (more, is)) ∙ string_only b s fits ([], whole ∙ sym (append-nil (encoding (string s)))) in
    let equal : d ≡ s = cc in
    let none : length (encoding (string s)) < length b = subst (λ s. length (encoding (string s)) < length b) equal longer in
    omega (arith, ap length whole)))
    (λ few. subst (ReadsHeld true b) (sym (cond-false (ltb (length (encoding (string d))) (length b)) (Err RlpIsTooBig) (Ok d) (le-ltb _ _ few)))
    (none_after b more (encoding (string d)) is few))
    (cases_lt (length (encoding (string d))) (length b))

lenient_reads : (b : List ℕ) (r : Result (List ℕ) DecoderError) → ReadsString b r → ReadsHeld false b r
lenient_reads b r stands = grind arith

pub held_from : (v : View) → length v.bytes < 2 ^ 64 → ReadsString v.bytes (read_string v.bytes) → ReadsHeld v.is_strict v.bytes (view_string v)
held_from v fits read = grind (arith, lenient_reads, whole_reads)

-- the string that is read from a view is the one that it holds; if no string is read, it holds none
pub held_reads : (v : View) → AreBytes v.bytes → length v.bytes < 2 ^ 64 → ReadsHeld v.is_strict v.bytes (view_string v)
held_reads v bytes fits = grind (arith, string_reads, lenient_reads, whole_reads)

-- if a string is missing, there is none, and what is known about the fault holds
pub missing_held : (v : View) (e : DecoderError) (F : DecoderError → Type 0) → ReadsHeld v.is_strict v.bytes (view_string v) → view_string v ≡ Err e
    → F e → IfErr (view_string v) (λ e. HoldsNoString v × F e)
missing_held v e F read is holds = grind arith

-- whether bytes follow an encoding that they begin with
pub is_followed-encoding : (x : Item) (b more : List ℕ) → IsSized x → b ≡ encoding x ++ more → is_followed b ≡ ltb (length (encoding x)) (length b)
unfolding is_followed
is_followed-encoding x b more sized is =
    let item = encoding_item x sized in
    let header : HasHeader b item.header_len item.value_len = subst (λ b. HasHeader b item.header_len item.value_len) (sym is) (longer more item.has_header) in
    ap (is_longer b) (framing_is b item.header_len item.value_len header (omega (arith, item.whole, ap length is, length-append (encoding x) more)))
    ∙ ap (λ n. ltb n (length b)) item.whole

-- ---- the string of a decoder

-- a strict view whose string is followed by bytes
pub held_too_big : (v : View) (d : List ℕ) → length v.bytes < 2 ^ 64 → v.is_strict ≡ true → read_string v.bytes ≡ Ok d
    → ReadsString v.bytes (read_string v.bytes) → is_followed v.bytes ≡ true → view_string v ≡ Err RlpIsTooBig
held_too_big v d fits strict is read followed = grind (arith, is_followed-encoding, front_sized)

-- a strict view that ends with its string
pub held_whole : (v : View) (d : List ℕ) → length v.bytes < 2 ^ 64 → read_string v.bytes ≡ Ok d → ReadsString v.bytes (read_string v.bytes)
    → is_followed v.bytes ≡ false → view_string v ≡ Ok d
held_whole v d fits is read followed = grind (arith, is_followed-encoding, front_sized)

-- a lenient view
pub held_front : (v : View) (r : Result (List ℕ) DecoderError) → v.is_strict ≡ false → read_string v.bytes ≡ r → view_string v ≡ r
held_front v r lenient is = cond-false v.is_strict _ _ lenient ∙ is

-- bytes that don't begin with a string
pub held_fault : (v : View) (e : DecoderError) → read_string v.bytes ≡ Err e → view_string v ≡ Err e
held_fault v e is = grind arith

-- ---- a view that begins with a string that has a header of at most one byte

-- a view holds the bytes that it begins with, if a strict one ends there
may_hold : (strict : Bool) (b s rest : List ℕ) → b ≡ s ++ rest → (IsTrue strict → length b ≡ length s) → Holds strict b s
may_hold strict b s rest is ends = grind (arith, common_steps)

-- a view that begins with a byte below 0x80 holds that byte, if a strict one ends there
pub low_held : (v : View) (n : ℕ) (more : List ℕ) → v.bytes ≡ n ∷ more → n < 0x80 → (IsTrue v.is_strict → length v.bytes ≡ 1)
    → HoldsString v (n ∷ [])
unfolding encoding
low_held v n more begins low ends =
    let written : encoding (string (n ∷ [])) ≡ n ∷ [] = cond-true (ltb n 0x80) _ _ (lt-ltb _ _ low) in
    subst (Holds v.is_strict v.bytes) (sym written) (may_hold v.is_strict v.bytes (n ∷ []) more begins ends)

-- a view that begins with a header of one byte and the string that it announces holds this string, if a strict one ends there
short_held : (v : View) (header : ℕ) (d more : List ℕ) → v.bytes ≡ header ∷ (d ++ more) → header ≡ 0x80 + length d → length d ≤ 55
    → is_low_byte d ≡ false → (IsTrue v.is_strict → length v.bytes ≡ 1 + length d) → HoldsString v d
unfolding encoding
short_held v header d more begins says short high ends =
    let head : written_header 0x80 (length d) ≡ header ∷ [] = written_header_short 0x80 (length d) short ∙ ap (λ h. h ∷ []) (sym says) in
    let written : encoding (string d) ≡ header ∷ d = cond-false (is_low_byte d) _ _ high ∙ ap (λ h. h ++ d) head in
    subst (Holds v.is_strict v.bytes) (sym written) (may_hold v.is_strict v.bytes (header ∷ d) more begins (λ strict. omega (arith, ends strict)))

-- the first of a view's bytes is held
pub first_held : (v : View) (b : List ℕ) → b ≡ v.bytes → 1 ≤ length b → get_or b 0 0 ≤ 127 → (IsTrue v.is_strict → length v.bytes ≡ 1)
    → HoldsString v (take 1 b)
first_held v b is held low ends = grind (arith, low_held)

-- the first n bytes are no low byte, if there isn't just one of them below 0x80
taken_high : (n : ℕ) (b : List ℕ) → n ≤ length b → (n ≡ 1 → 128 ≤ get_or b 0 0) → is_low_byte (take n b) ≡ false
taken_high n b enough high = grind (arith, common_steps)

-- the bytes after a header of one byte are held
pub after_held : (v : View) (b : List ℕ) → b ≡ v.bytes → 1 ≤ length b → 128 ≤ get_or b 0 0 → get_or b 0 0 ≤ 183
    → get_or b 0 0 - 128 ≤ length b - 1 → (IsTrue v.is_strict → length v.bytes ≡ 1 + (get_or b 0 0 - 128))
    → (get_or b 0 0 - 128 ≡ 1 → 128 ≤ get_or b 1 0)
    → HoldsString v (take (get_or b 0 0 - 128) (take (length b - 1) (drop 1 b)))
after_held v [] is held from to enough ends high = absurd (omega arith)
after_held v (h ∷ b) is held from to enough ends high =
    let rest : take (length (h ∷ b) - 1) b ≡ b = take_all (length (h ∷ b) - 1) b (omega arith) in
    let many : length (take (h - 128) b) ≡ h - 128 = length-take-le (h - 128) b (omega arith) in
    subst (λ d. HoldsString v (take (h - 128) d)) (sym rest)
    (short_held v h (take (h - 128) b) (drop (h - 128) b)
    (sym is ∙ ap (λ d. h ∷ d) (sym (take-append-drop (h - 128) b))) (omega (arith, many)) (omega (arith, many))
    (taken_high (h - 128) b (omega arith) high) (λ strict. omega (arith, ends strict, many)))

-- a string is no longer than its encoding may be
pub string_sized : (d : List ℕ) → IsSized (string d) → length d < 2 ^ 64
unfolding encoding
string_sized d sized = ⊎_elim (λ h. omega (arith, ap length h.0.is)) (λ w. w.small) (string_cases d sized)

-- ---- a view that begins with the digits of a number gives the number

-- at most n bytes that don't begin with a zero are the digits of a number that fits
pub leading_is_value : (width : ℕ) (digits : List ℕ) → ((i : ℕ) → Fits w8 (get_or digits i 0)) → length digits ≤ width → get_or digits 0 0 ≢ 0
    → FitsBytes width (number_from_digits 256 digits) × (big_endian (number_from_digits 256 digits) ≡ digits)
leading_is_value width [] bytes few leading = absurd (leading refl)
leading_is_value width (d ∷ ds) bytes few leading =
    let held = bytes_held (d ∷ ds) bytes in
    (digits_fit width (d ∷ ds) held few, digits_again d ds held (pos_of_ne-zero leading))

-- ---- a view that begins with a number of one digit

-- if a view begins with a digit from 1 to 0x7f, and a strict one ends there, the digit is the number that it gives
pub lone_digit : (width : ℕ) (v : View) (b : List ℕ) → b ≡ v.bytes → 1 ≤ width → 1 ≤ length b → 1 ≤ get_or b 0 0 → get_or b 0 0 ≤ 127
    → (IsTrue v.is_strict → length v.bytes ≡ 1) → GivesNumber width v (get_or b 0 0)
lone_digit width v [] is some held leading low ends = absurd (omega arith)
lone_digit width v (c ∷ b) is some held leading low ends =
    let value : number_from_digits 256 (c ∷ []) ≡ c = (let plain : 0 + c ≡ c = omega arith in plain) in
    let bytes : AreBytes (c ∷ []) = All-from_recursion (λ byte. byte < 2 ^ 8) (c ∷ []) (omega arith, tt) in
    let again = digits_again c [] bytes leading in
    subst (GivesNumber width v) value
    (record { fits = digits_fit width (c ∷ []) bytes some; begins = subst (HoldsString v) (sym again) (low_held v c b (sym is) (omega arith) ends) })

-- ---- the number of digits

-- leading zeros don't change the number
pub zeros_in_front : (k n : ℕ) (digits : List ℕ) → number_from_digits 256 (take k (replicate n 0) ++ digits) ≡ number_from_digits 256 digits
zeros_in_front zero n digits = refl
zeros_in_front (suc k) zero digits = refl
zeros_in_front (suc k) (suc n) digits = zeros_in_front k n digits

-- a number that fits has few digits
pub few_digits : (width n : ℕ) → FitsBytes width n → length (big_endian n) ≤ width
few_digits width n fit = grind (arith, pow-bytes, big_endian_is, length-digits_of-le)
