-- The closed size is computed from the places of the open lists.
use Rattle.std.proofs.Common.{◌≡◌, ℕ, ◌+◌, ◌-◌, ◌*◌, ◌^◌, ◌<◌, ◌≤◌, Bool, List, [], ◌∷◌, ◌++◌, length, take, drop, replicate, ◌∙◌, ap, subst, arith}
use Rattle.std.proofs.{Common.{append-nil, length-append, length-drop}, lemmas.Bool.cases_lt, lemmas.List.{length-take-le, length-replicate}}
use Rattle.rlp_write.specs.declared.open_lists.Placeholder.{Placeholder}
use Rattle.rlp_write.specs.Streams.Stream.{closed_payload_around, State, list_encoding, closed_size, closed_size_with}
use Rattle.rlp_write.specs.{Streams.Placeholders.{begin_of, lists_of, IsLaid, Descends}, Streams.Closing.{header_len, closed_len, left_of}}
use Rattle.rlp_write.specs.Streams.Layout.{state_of}
use Rattle.rlp_format.specs.Format.Encoding.{written_header}
use Rattle.rlp_format.proofs.{Lemmas.Digits.big_endian_length, Lemmas.Headers.{written_header_short, written_header_long}}
use Rattle.rlp_write.proofs.Streams.FlatBuffer.{start_le, laid_descends, left_behind}

closed_len_is : (start : ℕ) (b x : List ℕ) (ps : List Placeholder) → IsLaid start b ps
    → length (closed_payload_around list_encoding (drop (begin_of start ps) b ++ x) (lists_of start b ps)) ≡ closed_len start (length b) (length x) ps
closed_len_is start b x [] h = omega (arith, length-append (drop start b) x, length-drop start b)
closed_len_is start b x (p ∷ ps) h =
    let within = h.0.within in
    let payload = drop (p.position + 1) b ++ x in
    let around = closed_len_is start (take p.position b) (list_encoding payload) ps h.1 in
    let below : length (take p.position b) ≡ p.position = length-take-le p.position b (omega arith) in
    let len : length payload ≡ (length b - (p.position + 1)) + length x =
    omega (arith, length-append (drop (p.position + 1) b) x, length-drop (p.position + 1) b) in
    let encoded : length (list_encoding payload) ≡ header_len (length payload) + length payload =
    length-append (written_header 0xc0 (length payload)) payload in
    around ∙ ap (λ n. closed_len start n (length (list_encoding payload)) ps) below ∙ ap (λ n. closed_len start p.position n ps) encoded
    ∙ ap (λ n. closed_len start p.position (header_len n + n) ps) len

-- the closed size of a state, computed from the places of its open lists
pub closed_size_is : (start : ℕ) (b : List ℕ) (ps : List Placeholder) (m : Bool) (more : ℕ) → IsLaid start b ps
    → closed_size_with more (state_of start b ps m) ≡ closed_len start (length b) more ps
closed_size_is start b ps m more h = closed_len_is start b (replicate more 0) ps h ∙ ap (λ n. closed_len start (length b) n ps) (length-replicate more 0)

-- the added bytes are part of the closed size
pub closed_len_more : (start end more : ℕ) (ps : List Placeholder) → more ≤ closed_len start end more ps
closed_len_more start end more [] = omega arith
closed_len_more start end more (p ∷ ps) =
    let len : ℕ = (end - (p.position + 1)) + more in
    let around = closed_len_more start p.position (header_len len + len) ps in
    omega (arith, around)

-- the progress of the search for the size
pub record Measured (start end more : ℕ) (whole : List Placeholder) (left tail : ℕ) (ps : List Placeholder) : Type 0 where
  pub size : closed_len start end more whole ≡ closed_len start left tail ps
  pub order : Descends left ps
  pub lowest : start ≤ left_of (length ps) left ps

-- one more list is measured, with its header
pub measured_more : (start end more : ℕ) (whole : List Placeholder) (left tail : ℕ) (p : Placeholder) (ps : List Placeholder) (len header : ℕ)
    → Measured start end more whole left tail (p ∷ ps) → len ≡ (left - (p.position + 1)) + tail → header ≡ header_len len
    → Measured start end more whole p.position (header + len) ps
measured_more start end more whole left tail p ps len header h is written = grind arith

-- if a payload is too long, the size is
pub measured_long : (start end more : ℕ) (whole : List Placeholder) (left tail : ℕ) (p : Placeholder) (ps : List Placeholder)
    → Measured start end more whole left tail (p ∷ ps) → (left - (p.position + 1)) + tail ≤ closed_len start end more whole
measured_long start end more whole left tail p ps h = grind (arith, closed_len_more)

-- the same, if the length of the header is computed
pub measured_encoded : (start end more : ℕ) (whole : List Placeholder) (left tail : ℕ) (p : Placeholder) (ps : List Placeholder) (len header : ℕ)
    → Measured start end more whole left tail (p ∷ ps)
    → len ≡ (left - (p.position + 1)) + tail → header ≡ header_len len → header + len ≤ closed_len start end more whole
measured_encoded start end more whole left tail p ps len header h is written = grind (arith, measured_more, closed_len_more)

header_few : (len : ℕ) → len < 2 ^ 64 → header_len len ≤ 9
header_few len small = grind (arith, written_header_long, big_endian_length, written_header_short, cases_lt)

-- each header takes at most nine bytes, and its placeholder one
pub closed_len_few : (start more : ℕ) (b : List ℕ) (ps : List Placeholder) → IsLaid start b ps → (length b - start) + 8 * length ps + more < 2 ^ 64
    → closed_len start (length b) more ps ≤ (length b - start) + 8 * length ps + more
closed_len_few start more b [] h small = omega arith
closed_len_few start more b (p ∷ ps) h small =
    let within = h.0.within in
    let low = start_le start (take p.position b) ps h.1 in
    let below : length (take p.position b) ≡ p.position = length-take-le p.position b (omega arith) in
    let len : ℕ = (length b - (p.position + 1)) + more in
    let few : header_len len ≤ 9 = header_few len (omega (arith, low, below)) in
    let around = closed_len_few start (header_len len + len) (take p.position b) ps h.1 (omega (arith, low, below)) in
    let size : closed_len start p.position (header_len len + len) ps ≤ (p.position - start) + 8 * length ps + (header_len len + len) =
    subst (λ n. closed_len start n (header_len len + len) ps ≤ (n - start) + 8 * length ps + (header_len len + len)) below around in
    omega (arith, size, few, low, below)

-- so the size of a state is within a limit if that number of bytes is
pub within_few : (start : ℕ) (b : List ℕ) (ps : List Placeholder) (m : Bool) (more limit : ℕ) → IsLaid start b ps → limit < 2 ^ 64
    → (length b - start) + 8 * length ps + more ≤ limit → closed_size_with more (state_of start b ps m) ≤ limit
within_few start b ps m more limit h small few = search (arith, closed_len_few, closed_size_is)

-- the size once every list is measured
pub measured_all : (start end more : ℕ) (whole : List Placeholder) (left tail : ℕ) (lists : List Placeholder)
    → Measured start end more whole left tail lists → lists ≡ [] → closed_len start end more whole ≡ (left - start) + tail
measured_all start end more whole left tail [] h none = h.size
measured_all start end more whole left tail (p ∷ lists) h none = absurd (let no : ⊥ = cc in no)

-- the closed size is the size with no more bytes
pub closed_size_none : (s : State) → closed_size_with 0 s ≡ closed_size s
closed_size_none s = ap (λ b. length (closed_payload_around list_encoding b s.stack.lists)) (append-nil s.stack.inner)

-- the closed size is small: a buffer has fewer than 2^63 bytes, and there are fewer than 2^59 places
pub closed_small : (start : ℕ) (b : List ℕ) (ps : List Placeholder) (m : Bool) → IsLaid start b ps → length b < 2 ^ 63 → 24 * length ps < 2 ^ 63
    → closed_size (state_of start b ps m) < 2 ^ 64
closed_small start b ps m h short few =
    omega (arith, closed_len_few start 0 b ps h (omega arith), closed_size_is start b ps m 0 h, closed_size_none (state_of start b ps m))

pub ruleset measures = (measured_more, measured_all, measured_long, measured_encoded)

pub ruleset placed = (laid_descends, left_behind)
