-- Bytes that are put one after another.
use Rattle.std.proofs.Common.{◌≡◌, ℕ, ◌+◌, ◌-◌, ◌^◌, ◌<◌, ◌≤◌, List, [], ◌∷◌, ◌++◌, length, take, drop, map, codes, sym, ap, ◌∙◌, subst, arith}
use Rattle.std.proofs.{Common.{append_assoc, length-append, false, le-leb, Ok, Err, MatchResult}, lemmas.List.{drop-drop, drop_at, length-take-le, take_at}, lemmas.Bool.cond-true}
use Rattle.rlp_reading.specs.{Format.Framing.{items, split, framing, framing_in, header, payload_info, IsString}, Views.Text.{separated, text}}
use Rattle.rlp_reading.specs.{declared.error.DecoderError.DecoderError, declared.header.PayloadInfo.PayloadInfo, Form.Fault}
use Rattle.rlp_reading.proofs.{Lemmas.Texts.{done-more, separator_after, separator_after-more, texts-more}, Trees.Needless.{Ok_same, string_placed}}
use Rattle.rlp_c.specs.{Written.IsPut, declared.item.RlpItem.RlpItem, Rows.{IsRowOfString, row}, Status.fault_number}
use Rattle.rlp_reading.proofs.Lemmas.Texts.{done-all, done-next, item-shorter, items-list, length-framed, text-list, text-string, text-followed, length-some, text-fault, text-null}

pub put_both : (old mid new : List ℕ) (n m k : ℕ) (e f : List ℕ) → length old < 2 ^ 64 - 1 → IsPut old n e mid m → IsPut mid m f new k → IsPut old n (e ++ f) new k
put_both old mid new n m k e f short first then = record {
  end = omega (arith, length-append e f, first.end, then.end);
  same_len = then.same_len ∙ first.same_len;
  filled = λ room.
      let len = length-append e f in
      let early : n + length e ≤ length old = omega (arith, room, len) in
      let place : m ≡ n + length e = omega (arith, first.end, early, short) in
      let whole : mid ≡ take n old ++ (e ++ drop (n + length e) old) = first.filled early in
      let front : length (take n old ++ e) ≡ m = length-append (take n old) e ∙ (let same : length (take n old) + length e ≡ m = omega (arith, place, length-take-le n old (omega (arith, early))) in same) in
      let parts : mid ≡ (take n old ++ e) ++ drop (n + length e) old = whole ∙ sym (append_assoc (take n old) e (drop (n + length e) old)) in
      let before : take m mid ≡ take n old ++ e = ap (take m) parts ∙ take_at (take n old ++ e) (drop (n + length e) old) m front in
      let behind : drop (m + length f) mid ≡ drop (n + length (e ++ f)) old =
      sym (drop-drop (length f) m mid)
      ∙ ap (λ s. drop (length f) s) (ap (drop m) parts ∙ drop_at (take n old ++ e) (drop (n + length e) old) m front)
      ∙ drop-drop (length f) (n + length e) old
      ∙ ap (λ j. drop j old) (let same : n + length e + length f ≡ n + length (e ++ f) = omega (arith, len) in same) in
      then.filled (omega (arith, place, room, len, first.same_len))
      ∙ ap (λ s. s ++ (f ++ drop (m + length f) mid)) before
      ∙ ap (λ s. (take n old ++ e) ++ (f ++ s)) behind
      ∙ append_assoc (take n old) e (f ++ drop (n + length (e ++ f)) old)
      ∙ ap (λ s. take n old ++ s) (sym (append_assoc e f (drop (n + length (e ++ f)) old)));
}

pub put_as : (old new : List ℕ) (n m : ℕ) (e f : List ℕ) → e ≡ f → IsPut old n e new m → IsPut old n f new m
put_as old new n m e f same p = subst (λ s. IsPut old n s new m) same p

-- the first items of a list are put
pub record IsPrinting (b rest : List ℕ) (old : List ℕ) (n : ℕ) (separator new : List ℕ) (m : ℕ) : Type 0 where
  pub done : List (List ℕ)
  pub all : done ++ split rest ≡ items b
  pub next : separator ≡ separator_after done
  pub put : IsPut old n (codes "[" ++ separated (map text done)) new m

pub printing_one : (b rest item others old mid out new separator : List ℕ) (n m k l : ℕ) → length old < 2 ^ 64 - 1
    → IsPrinting b rest old n separator mid m → split rest ≡ item ∷ split others → IsPut mid m separator out k → IsPut out k (text item) new l
    → IsPrinting b others old n (codes ", ") new l
printing_one b rest item others old mid out new separator n m k l short w parts between one = record {
  done = w.done ++ item ∷ [];
  all = done-more w.done (items b) rest item others w.all parts;
  next = separator_after-more w.done item;
  put = put_as old new n l (((codes "[" ++ separated (map text w.done)) ++ separator) ++ text item) (codes "[" ++ separated (map text (w.done ++ item ∷ [])))
      (append_assoc (codes "[" ++ separated (map text w.done)) separator (text item)
      ∙ append_assoc (codes "[") (separated (map text w.done)) (separator ++ text item)
      ∙ ap (λ s. codes "[" ++ s) (texts-more w.done item separator w.next))
      (put_both old out new n k l ((codes "[" ++ separated (map text w.done)) ++ separator) (text item) short
      (put_both old mid out n m k (codes "[" ++ separated (map text w.done)) separator short w.put between) one);
}

-- ---- where the string that bytes begin with is

-- the header that was read, for the string
placed_as : (b d : List ℕ) (info : PayloadInfo) (fits : length b < 2 ^ 64) (stands : IsString b d) → Ok info ≡ header b
    → info ≡ payload_info (string_placed b d fits stands).h (length d)
placed_as b d info fits stands found = let p = string_placed b d fits stands in Ok_same (found ∙ p.has)

-- a row with the header that was read points at the string
pub row_there : (b d : List ℕ) (info : PayloadInfo) → length b < 2 ^ 64 → IsString b d → Ok info ≡ header b → take (length d) (drop (0 + info.header_len) b) ≡ d
row_there b d info fits stands found =
    let p = string_placed b d fits stands in
    let place : p.h ≡ 0 + info.header_len = omega (arith, ap (λ (i : PayloadInfo). i.header_len) (placed_as b d info fits stands found)) in
    subst (λ h. take (length d) (drop h b) ≡ d) place p.there

-- the row of a string with a header of this length, and a payload of this length
abbrev row_of_string : ℕ → ℕ → RlpItem
row_of_string h n = record { offset = 0; header_len = h; payload_len = n; depth = 0; is_list = 0 }

framed_row : (b : List ℕ) (r : RlpItem) (p : PayloadInfo) → framing b ≡ Ok p → r ≡ row 0 0 false p → IsRowOfString b r
framed_row b r p is same = subst (λ f. MatchResult f (λ q. r ≡ row 0 0 false q) (λ e. ⊥)) (sym is) same

-- and is the one by the framing
pub row_framed : (b d : List ℕ) (info : PayloadInfo) → length b < 2 ^ 64 → IsString b d → Ok info ≡ header b
    → IsRowOfString b (row_of_string info.header_len (length d))
unfolding framing
row_framed b d info fits stands found =
    let p = string_placed b d fits stands in
    let head : info.header_len ≡ p.h = ap (λ (i : PayloadInfo). i.header_len) (placed_as b d info fits stands found) in
    framed_row b (row_of_string info.header_len (length d)) (payload_info p.h (length d))
    (ap (framing_in b) p.has ∙ cond-true _ _ _ (le-leb (p.h + length d) (length b) p.within))
    (ap (λ h. row_of_string h (length d)) head)

-- bytes that begin with a string have a header
pub no_row : {P : Type 0} (b d : List ℕ) (e : DecoderError) → length b < 2 ^ 64 → IsString b d → Err e ≡ header b → P
no_row b d e fits stands found =
    let p = string_placed b d fits stands in
    let both : Err e ≡ Ok (payload_info p.h (length d)) = found ∙ p.has in
    absurd (let no : ⊥ = cc in no)

pub ruleset rows_of_strings = (row_framed, row_there)

-- ---- the numbers of faults

-- no fault has the number 0, and none has the number of an array that is too short
pub number_within : (e : Fault) → (0 < fault_number e) × (fault_number e < 13)
number_within e = grind arith

pub ruleset texts = (text-followed, length-some, text-fault, text-null, put_as)

pub ruleset framed_texts = (
  done-all,
  done-next,
  item-shorter,
  items-list,
  length-framed,
  text-list,
  text-string,
  printing_one,
  put_as,
  put_both,
)
