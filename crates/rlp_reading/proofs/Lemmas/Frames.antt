-- Frames, and the lists of items that begin bytes.
use Rattle.std.proofs.Common.{◌≡◌, ℕ, zero, suc, ◌+◌, ◌-◌, ◌^◌, ◌<◌, ◌≤◌, ◌⊎◌, inl, inr, ⊎_elim, List, [], ◌∷◌, ◌++◌, length, take, drop, map, All, refl}
use Rattle.std.proofs.Common.{sym, ap, ◌∙◌, subst, arith, Ok, Err, Result, leb, le-leb, leb-true, length-append, length-take-le, append_assoc, get_or}
use Rattle.std.proofs.{Common.{append-nil, take_at, drop_at, take-append-drop, MatchResult, IsTrue, is_ok, ◌↔◌}, lemmas.Bool.{leb-false, cases_lt, cond_both, cond-true}}
use Rattle.std.proofs.{lemmas.List.Elements.{All-drop, All-same, recursion_from_All, All-from_recursion}, lemmas.Grind.{common_steps}}
use Rattle.std.proofs.{lemmas.List.{append_cancel_left, nil_from_length}, Math.Seq.take-append-add}
use Rattle.std.specs.List.{concat, AllByRecursion}
use Rattle.rlp_reading.specs.{declared.error.DecoderError.DecoderError, declared.header.PayloadInfo.PayloadInfo, declared.error.DecoderError.TheVariants.{RlpIsTooShort}}
use Rattle.rlp_reading.specs.{Format.Framing.{HasHeader, lone, written, header, ReadsHeader, payload_info, map_ok, total_len, IsCut, IsSplit, split, split_within, frame_and_more}}
use Rattle.rlp_reading.specs.Format.Framing.{IsFramed, IsFramedItem, IsFault, no_header, cut_short, fault, fault_in, framing, framing_in, frame, value}
use Rattle.rlp_format.specs.Format.Encoding.{Item, written_header, AreBytes, encoding, join, IsSized, BeginsWith}
use Rattle.rlp_reading.proofs.Lemmas.Reading.{read, header_unique, header_reads, short_has}
use Rattle.rlp_format.proofs.{Lemmas.Encodings.{IsForm, form, first_of_header}, Lemmas.Lists.same_front}

-- a header stands at the front of longer bytes too
pub longer : {b : List ℕ} {h n : ℕ} (more : List ℕ) → HasHeader b h n → HasHeader (b ++ more) h n
longer more (lone byte rest low) = lone byte (rest ++ more) low
longer more (written base n rest b small) = subst (λ s. HasHeader s (length (written_header base n)) n)
    (sym (append_assoc (written_header base n) rest more)) (written base n (rest ++ more) b small)

-- and it has at least a byte with its value
pub header_some : {b : List ℕ} {h n : ℕ} → HasHeader b h n → 0 < h + n
header_some (lone byte rest low) = omega arith
header_some (written base n rest b small) = let (first, more, is, high) = first_of_header base n b small in omega (arith, ap length is)

-- it lies within them
pub header_within : {b : List ℕ} {h n : ℕ} → HasHeader b h n → h ≤ length b
header_within has = grind (arith, length-append)

-- ---- framing

-- the header of framed bytes
pub framing_is : (b : List ℕ) (h n : ℕ) → HasHeader b h n → h + n ≤ length b → framing b ≡ Ok (payload_info h n)
unfolding framing
framing_is b h n has within = ap (framing_in b) (read has) ∙ cond-true _ _ _ (le-leb (h + n) (length b) within)

-- framed bytes begin with their header and value
pub frame_is : (b : List ℕ) (h n : ℕ) → HasHeader b h n → h + n ≤ length b → frame b ≡ Ok (take (h + n) b)
unfolding frame
frame_is b h n has within = ap (map_ok (λ p. take (total_len p) b)) (framing_is b h n has within)

-- the value of framed bytes follows their header
pub value_is : (b : List ℕ) (h n : ℕ) → HasHeader b h n → h + n ≤ length b → value b ≡ Ok (take n (drop h b))
unfolding value
value_is b h n has within = ap (map_ok (λ p. take p.value_len (drop p.header_len b))) (framing_is b h n has within)

-- the frame of bytes that begin with a framed item is that item
pub frame_front : (f more : List ℕ) → IsFramedItem f → frame (f ++ more) ≡ Ok f
frame_front f more is =
    let within : is.header_len + is.value_len ≤ length (f ++ more) = omega (arith, is.whole, length-append f more) in
    frame_is (f ++ more) is.header_len is.value_len (longer more is.has_header) within ∙ ap Ok (take_at f more (is.header_len + is.value_len) (sym is.whole))

-- an encoding is a framed item
pub encoding_item : (x : Item) → IsSized x → IsFramedItem (encoding x)
encoding_item x h = item_from (encoding x) (form x h)
  where
    item_from : (b : List ℕ) → IsForm b → IsFramedItem b
    item_from b (inl l) = subst IsFramedItem (sym l.is) (record { header_len = 0; value_len = 1; has_header = lone l.byte [] l.low; whole = refl })
    item_from b (inr (base, payload, w)) =
        subst IsFramedItem (sym w.is)
        (record {
          header_len = length (written_header base (length payload));
          value_len = length payload;
          has_header =
              written base (length payload) payload w.is_base w.small;
          whole = sym (length-append (written_header base (length payload)) payload);
        })

-- ---- two cuts of one list

-- framed items that begin the same bytes are equal
pub framed_same : (f g x y : List ℕ) → IsFramedItem f → IsFramedItem g → f ++ x ≡ g ++ y → (f ≡ g) × (x ≡ y)
framed_same f g x y a b e =
    let there : HasHeader (g ++ y) a.header_len a.value_len = subst (λ s. HasHeader s a.header_len a.value_len) e (longer x a.has_header) in
    let same = header_unique (g ++ y) a.header_len a.value_len b.header_len b.value_len there (longer y b.has_header) in
    same_front f g x y (omega (arith, a.whole, b.whole, same.0, same.1)) e

-- each is a framed item
abbrev pub AllFramed : List (List ℕ) → Type 0
AllFramed fs = AllByRecursion IsFramedItem fs

-- a framed item has a byte
pub item_some : (f : List ℕ) → IsFramedItem f → 0 < length f
item_some f is = omega (arith, header_some is.has_header, is.whole)

-- one is a beginning of the other
pub cuts_agree : (fs gs : List (List ℕ)) (x y : List ℕ) → AllFramed fs → AllFramed gs → concat fs ++ x ≡ concat gs ++ y → BeginsWith gs fs ⊎ BeginsWith fs gs
cuts_agree [] gs x y a b e = inl (gs, refl)
cuts_agree (f ∷ fs) [] x y a b e = inr (f ∷ fs, refl)
cuts_agree (f ∷ fs) (g ∷ gs) x y a b e =
    let cells : f ++ (concat fs ++ x) ≡ g ++ (concat gs ++ y) = sym (append_assoc f (concat fs) x) ∙ e ∙ append_assoc g (concat gs) y in
    let (fronts, tails) = framed_same f g (concat fs ++ x) (concat gs ++ y) a.0 b.0 cells in
    grind (arith, append_assoc, framed_same, cuts_agree fs gs x y a.1 b.1 tails)

-- of two cuts of the same bytes one begins the other
pub cuts_begin : (p : List ℕ) (fs gs : List (List ℕ)) → IsCut p fs → IsCut p gs → BeginsWith gs fs ⊎ BeginsWith fs gs
cuts_begin p fs gs a b =
    cuts_agree fs gs a.begins.0 b.begins.0 (recursion_from_All IsFramedItem fs a.each) (recursion_from_All IsFramedItem gs b.each) (sym a.begins.1 ∙ b.begins.1)

-- a list no longer than its own prefix equals the prefix
pub longer_same : (fs gs more : List (List ℕ)) → gs ≡ fs ++ more → length gs ≤ length fs → fs ≡ gs
longer_same fs gs more e l = grind (arith, common_steps)

-- the longest cut is the only longest one
pub split_unique : (p : List ℕ) (fs gs : List (List ℕ)) → IsSplit p fs → IsSplit p gs → fs ≡ gs
split_unique p fs gs a b =
    ⊎_elim
    (λ (more, is). longer_same fs gs more is (a.longest gs b.cut))
    (λ (more, is). sym (longer_same gs fs more is (b.longest fs a.cut)))
    (cuts_begin p fs gs a.cut b.cut)

-- ---- what `split` gives

-- the first item is split off
pub split_step : (turns : ℕ) (f more : List ℕ) → IsFramedItem f → split_within (suc turns) (f ++ more) ≡ f ∷ split_within turns more
split_step turns f more is = grind (arith, frame_front, drop_at)

-- if x begins with no framed item, splitting `concat fs ++ x` gives fs
pub split_of : (turns : ℕ) (fs : List (List ℕ)) (x : List ℕ) (e : DecoderError) → AllFramed fs → frame x ≡ Err e → length (concat fs ++ x) ≤ turns
    → split_within turns (concat fs ++ x) ≡ fs
split_of zero [] x e a none l = refl
split_of (suc turns) [] x e a none l = ap (frame_and_more (split_within turns) x) none
split_of zero (f ∷ fs) x e a none l = absurd (omega (arith, item_some f a.0, length-append f (concat fs), length-append (f ++ concat fs) x))
split_of (suc turns) (f ∷ fs) x e a none l =
    let assoc : (f ++ concat fs) ++ x ≡ f ++ (concat fs ++ x) = append_assoc f (concat fs) x in
    ap (split_within (suc turns)) assoc
    ∙ split_step turns f (concat fs ++ x) a.0
    ∙ ap (λ gs. f ∷ gs) (split_of turns fs x e a.1 none (omega (arith, item_some f a.0, ap length assoc, length-append f (concat fs ++ x))))

-- no bytes are too short
pub frame_nil : frame [] ≡ Err RlpIsTooShort
unfolding frame framing header
frame_nil = refl

-- framed items that are joined are split to themselves
pub split_items : (fs : List (List ℕ)) → AllFramed fs → split (concat fs) ≡ fs
unfolding split
split_items fs a =
    let whole : concat fs ++ [] ≡ concat fs = append-nil (concat fs) in
    ap (split_within (length (concat fs))) (sym whole) ∙ split_of (length (concat fs)) fs [] RlpIsTooShort a frame_nil (omega (arith, ap length whole))

-- joined items are their encodings, one after another
pub join_is : (xs : List Item) → join xs ≡ concat (map encoding xs)
join_is [] = refl
join_is (x ∷ xs) = ap (λ s. encoding x ++ s) (join_is xs)

-- encodings are framed items
pub encodings_framed : (xs : List Item) → AllByRecursion IsSized xs → AllFramed (map encoding xs)
encodings_framed [] a = tt
encodings_framed (x ∷ xs) a = (encoding_item x a.0, encodings_framed xs a.1)

-- cuts and encodings
pub split_join : (xs : List Item) → All IsSized xs → split (join xs) ≡ map encoding xs
split_join xs a = ap split (join_is xs) ∙ split_items (map encoding xs) (encodings_framed xs (recursion_from_All IsSized xs a))

-- bytes that begin with a framed item are framed
pub front_framed : (f more : List ℕ) → IsFramedItem f → IsFramed (f ++ more)
front_framed f more is = grind (arith, longer, length-append)

no_more : (fs gs more : List (List ℕ)) (x y : List ℕ) → ¬ IsFramed x → AllFramed gs → gs ≡ fs ++ more → concat fs ++ x ≡ concat gs ++ y → length gs ≤ length fs
no_more [] [] more x y stop a e is = omega arith
no_more [] (g ∷ gs) more x y stop a e is = grind (arith, append_assoc, front_framed)
no_more (f ∷ fs) [] more x y stop a e is = omega arith
no_more (f ∷ fs) (g ∷ gs) more x y stop a e is =
    let heads : g ≡ f = cc in
    let tails : gs ≡ fs ++ more = cc in
    let cells : f ++ (concat fs ++ x) ≡ f ++ (concat gs ++ y) = sym (append_assoc f (concat fs) x) ∙ is ∙ append_assoc g (concat gs) y
    ∙ ap (λ h. h ++ (concat gs ++ y)) heads in
    let below : length gs ≤ length fs = no_more fs gs more x y stop a.1 tails (append_cancel_left f _ _ cells) in
    omega arith

-- fs is the longest cut of `concat fs ++ x` if x begins with no framed item
pub stopped_split : (fs : List (List ℕ)) (x : List ℕ) → AllFramed fs → ¬ IsFramed x → IsSplit (concat fs ++ x) fs
stopped_split fs x a stop =
    grind (arith, All-from_recursion, recursion_from_All, no_more, length-append, cuts_agree)

-- ---- what `frame` gives

shorter : {b : List ℕ} {h n : ℕ} → HasHeader b h n → h + n ≤ length b → HasHeader (take (h + n) b) h n
shorter (lone byte rest low) within = lone byte [] low
shorter (written base n rest b small) within =
    subst (λ s. HasHeader s (length (written_header base n)) n) (sym (take-append-add (written_header base n) rest n)) (written base n (take n rest) b small)

-- the header and value in front are a framed item
pub frame_item : (b : List ℕ) (h n : ℕ) → HasHeader b h n → h + n ≤ length b → IsFramedItem (take (h + n) b)
frame_item b h n has within = record { header_len = h; value_len = n; has_header = shorter has within; whole = sym (length-take-le (h + n) b within) }

-- what `framing` answers is right
abbrev pub Frames : List ℕ → Result PayloadInfo DecoderError → Type 0
Frames b answer = MatchResult answer (λ p. HasHeader b p.header_len p.value_len × (total_len p ≤ length b)) (λ e. ¬ IsFramed b)

framing_by : (b : List ℕ) (r : Result PayloadInfo DecoderError) → header b ≡ r → ReadsHeader b r → Frames b (framing_in b r)
unfolding framing
framing_by b r is reads = grind (arith, framing_is)

-- `framing` gives the header of framed bytes, and a fault of others
pub framing_reads : (b : List ℕ) → AreBytes b → Frames b (framing b)
unfolding framing
framing_reads b bytes = framing_by b (header b) refl (header_reads b bytes)

-- the answer of `frame`: the framed item in front, or none
abbrev pub Fronts : List ℕ → Result (List ℕ) DecoderError → Type 0
Fronts b answer = MatchResult answer (λ f. IsFramedItem f × (b ≡ f ++ drop (length f) b)) (λ e. ¬ IsFramed b)

frame_by : (b : List ℕ) (r : Result PayloadInfo DecoderError) → Frames b r → Fronts b (map_ok (λ p. take (total_len p) b) r)
frame_by b r is = grind (arith, length-take-le, frame_item, take-append-drop)

-- `frame` gives the framed item in front, where one is
pub frame_reads : (b : List ℕ) → AreBytes b → Fronts b (frame b)
unfolding frame
frame_reads b bytes = frame_by b (framing b) (framing_reads b bytes)

-- ---- `split` is the longest

-- what a walk over the items of bytes finds
pub record Walk (p : List ℕ) (fs : List (List ℕ)) : Type 0 where
  pub left : List ℕ
  pub is : p ≡ concat fs ++ left
  pub each : AllFramed fs
  pub stopped : ¬ IsFramed left

walk_by : (turns : ℕ) (p : List ℕ) (r : Result (List ℕ) DecoderError) → length p ≤ suc turns → Fronts p r
    → ((q : List ℕ) → length q ≤ turns → (f : List ℕ) → p ≡ f ++ q → Walk q (split_within turns q)) → Walk p (frame_and_more (split_within turns) p r)
walk_by turns p r l stop again = grind (arith, length-append, item_some, append_assoc)

-- a split of as many turns as bytes finds all
pub walk : (turns : ℕ) (p : List ℕ) → AreBytes p → length p ≤ turns → Walk p (split_within turns p)
walk zero p bytes l = record { left = p; is = refl; each = tt; stopped = subst (λ s. ¬ IsFramed s) (sym (nil_from_length p (omega arith))) (λ is. omega (arith, header_some is.has_header, is.within)) }
walk (suc turns) p bytes l =
    walk_by turns p (frame p) l (frame_reads p bytes)
    (λ q short f e. walk turns q (All-same (λ byte. byte < 2 ^ 8) q (drop (length f) p) (sym (ap (drop (length f)) e ∙ drop_at f q (length f) refl))
    (All-drop (λ byte. byte < 2 ^ 8) (length f) p bytes)) short)

-- `split` is the longest list of framed items that begins p
pub split_longest : (p : List ℕ) → AreBytes p → IsSplit p (split p)
unfolding split
split_longest p bytes =
    let w = walk (length p) p bytes (omega arith) in
    subst (λ s. IsSplit s (split_within (length p) p)) (sym w.is) (stopped_split (split_within (length p) p) w.left w.each w.stopped)

-- `split` gives the only split
pub split_only : (p : List ℕ) (fs : List (List ℕ)) → AreBytes p → IsSplit p fs → fs ≡ split p
split_only p fs bytes is = split_unique p fs (split p) is (split_longest p bytes)

-- an encoding frames itself
pub encoding_framed : (x : Item) (b : List ℕ) → IsSized x → BeginsWith b (encoding x) → IsFramed b × (frame b ≡ Ok (encoding x))
encoding_framed x b h begins = grind (arith, encoding_item, front_framed, frame_front)

-- ---- `frame` and the relations

fronts_framed : (b : List ℕ) (r : Result (List ℕ) DecoderError) → frame b ≡ r → Fronts b r → IsTrue (is_ok r) ↔ IsFramed b
fronts_framed b r is stop = grind (arith, front_framed)

-- `frame` gives an item exactly of framed bytes
pub frame_framed : (b : List ℕ) → AreBytes b → IsTrue (is_ok (frame b)) ↔ IsFramed b
frame_framed b bytes = fronts_framed b (frame b) refl (frame_reads b bytes)

fronts_whole : (b : List ℕ) (r : Result (List ℕ) DecoderError) → Fronts b r → r ≡ Ok b → IsFramedItem b
fronts_whole b r stop is = grind arith

-- `frame` gives the whole exactly of a framed item
pub frame_whole : (b : List ℕ) → AreBytes b → (frame b ≡ Ok b) ↔ IsFramedItem b
frame_whole b bytes =
    (fronts_whole b (frame b) (frame_reads b bytes), λ item. ap frame (sym (append-nil b)) ∙ frame_front b [] item)

-- ---- the steps of `split`

within_is_split : (turns : ℕ) (p : List ℕ) → AreBytes p → length p ≤ turns → split_within turns p ≡ split p
within_is_split turns p bytes l =
    let w = walk turns p bytes l in
    split_only p (split_within turns p) bytes
    (subst (λ s. IsSplit s (split_within turns p)) (sym w.is) (stopped_split (split_within turns p) w.left w.each w.stopped))

-- the split goes by a framed item and what follows it
pub split_more : (p f q : List ℕ) → AreBytes p → p ≡ f ++ q → IsFramedItem f → split p ≡ f ∷ split q
split_more p f q bytes is item =
    let shorter : length q ≤ length p = omega (arith, ap length is, length-append f q) in
    let some = item_some f item in
    let bytes_left : AreBytes q = All-same (λ byte. byte < 2 ^ 8) q (drop (length f) p) (sym (ap (drop (length f)) is ∙ drop_at f q (length f) refl))
    (All-drop (λ byte. byte < 2 ^ 8) (length f) p bytes) in
    sym (within_is_split (suc (length p)) p bytes (omega arith))
    ∙ ap (split_within (suc (length p))) is
    ∙ split_step (length p) f q item
    ∙ ap (λ fs. f ∷ fs) (within_is_split (length p) q bytes_left shorter)

-- what isn't framed has no items
pub split_none : (p : List ℕ) → AreBytes p → ¬ IsFramed p → split p ≡ []
split_none p bytes stop = sym (split_only p [] bytes (stopped_split [] p tt stop))

-- the same, by the lengths that `framing` answers
pub split_framed : (p : List ℕ) (h n : ℕ) → AreBytes p → framing p ≡ Ok (payload_info h n) → split p ≡ take (h + n) p ∷ split (drop (h + n) p)
split_framed p h n bytes is =
    let parts : HasHeader p h n × (h + n ≤ length p) = subst (Frames p) is (framing_reads p bytes) in
    split_more p (take (h + n) p) (drop (h + n) p) bytes (sym (take-append-drop (h + n) p)) (frame_item p h n parts.0 parts.1)

-- a string of at most 55 bytes ends by its first byte alone
short_item : (first : ℕ) (rest : List ℕ) → first < 0xb8 → 1 + (first - 0x80) ≤ length (first ∷ rest) → IsFramedItem (take (1 + (first - 0x80)) (first ∷ rest))
short_item first rest short within =
    ⊎_elim (λ low.
    let total : 1 ≡ 1 + (first - 0x80) = omega arith in
    subst (λ n. IsFramedItem (take n (first ∷ rest))) total (frame_item (first ∷ rest) 0 1 (lone first rest low) (omega arith)))
    (λ high. frame_item (first ∷ rest) 1 (first - 0x80) (short_has 0x80 first (first - 0x80) rest (inl refl) (omega arith) (omega arith)) within)
    (cases_lt first 0x80)

-- the split goes by such a string
pub split_short : (p : List ℕ) (n : ℕ) → AreBytes p → 0 < length p → get_or p 0 0 < 0xb8 → n ≡ 1 + (get_or p 0 0 - 0x80) → n ≤ length p
    → split p ≡ take n p ∷ split (drop n p)
split_short [] n bytes some short total within = absurd (omega arith)
split_short (first ∷ rest) n bytes some short total within =
    rw total (split_more (first ∷ rest) _ _ bytes (sym (take-append-drop (1 + (first - 0x80)) (first ∷ rest)))
    (short_item first rest short (omega (arith, total, within))))

-- where `framing` answers a fault there are no items
pub split_unframed : (p : List ℕ) (e : DecoderError) → AreBytes p → framing p ≡ Err e → split p ≡ []
split_unframed p e bytes is = grind (arith, split_none, framing_is)

-- ---- why bytes aren't framed

abbrev Faulty : List ℕ → Result PayloadInfo DecoderError → Type 0
Faulty b answer = IsFault b (fault_in answer) × (answer ≡ Err (fault_in answer))

fault_by : (b : List ℕ) (r : Result PayloadInfo DecoderError) → ReadsHeader b r → ¬ IsFramed b → Faulty b (framing_in b r)
fault_by b (Err e) (none, same) un = (subst (IsFault b) (sym same) (no_header none), refl)
fault_by b (Ok p) has un =
    cond_both (leb (total_len p) (length b)) _ _ (Faulty b)
    (λ e. absurd (un (record { header_len = p.header_len; value_len = p.value_len; has_header = has; within = leb-true _ _ e })))
    (λ e. (cut_short p.header_len p.value_len has (leb-false _ _ e), refl))

-- `fault` is the fault of bytes that aren't framed
pub fault_reads : (b : List ℕ) → AreBytes b → ¬ IsFramed b → IsFault b (fault b) × (frame b ≡ Err (fault b)) × (value b ≡ Err (fault b))
unfolding fault frame value framing
fault_reads b bytes un =
    let f = fault_by b (header b) (header_reads b bytes) un in
    (f.0, ap (map_ok (λ p. take (total_len p) b)) f.1, ap (map_ok (λ p. take p.value_len (drop p.header_len b))) f.1)
