-- Bytes after some of the items that they begin with.
use Rattle.std.proofs.Common.{ℕ, ◌+◌, ◌-◌, ◌*◌, ◌^◌, ◌<◌, ◌≤◌, ◌≡◌, List, [], ◌∷◌, ◌++◌, length, take, drop, get_or, refl, sym, ◌∙◌, ap, arith}
use Rattle.std.proofs.Common.{length-drop, append_assoc, append-nil, take-append-drop, drop_at, take_all}
use Rattle.std.proofs.{Math.Seq.{take-add}, lemmas.List.{drop-drop, get_or-drop, Elements.All-drop, Elements.All-same, Folds.concat-append}}
use Rattle.std.specs.List.{concat}
use Rattle.rlp_format.specs.Format.Encoding.{AreBytes}
use Rattle.rlp_reading.specs.{Format.Framing.{split, fault, after_items}, Format.Skipping.IsAfterItems}
use Rattle.rlp_reading.proofs.Lemmas.Frames.{split_short}

-- no item is skipped
pub after-none : (p left : List ℕ) (k : ℕ) → left ≡ p → k ≡ 0 → IsAfterItems p k left
after-none p left k same none = rw (same, none) (record { enough = omega arith; others = refl; whole = refl })

-- some items are skipped, and then others
pub after-both : (p mid left : List ℕ) (j k n : ℕ) → IsAfterItems p j mid → IsAfterItems mid k left → n ≡ j + k → IsAfterItems p n left
after-both p mid left j k n first second both =
    let long : length (split mid) ≡ length (split p) - j = ap length first.others ∙ length-drop j (split p) in
    let front : take k (split mid) ≡ take k (drop j (split p)) = ap (take k) first.others in
    rw both
    (record {
      enough = omega (arith, first.enough, second.enough);
      others = second.others ∙ ap (drop k) first.others ∙ drop-drop k j (split p);
      whole = first.whole
          ∙ ap (λ b. concat (take j (split p)) ++ b) (second.whole ∙ ap (λ fs. concat fs ++ left) front)
          ∙ sym (append_assoc (concat (take j (split p))) (concat (take k (drop j (split p)))) left)
          ∙ ap (λ b. b ++ left) (sym (concat-append (take j (split p)) (take k (drop j (split p)))) ∙ ap concat (sym (take-add j k (split p))));
    })

-- one item is skipped
pub after-item : (p item left : List ℕ) → split p ≡ item ∷ split left → p ≡ item ++ left → IsAfterItems p 1 left
after-item p item left parts whole = grind (arith, append-nil)

-- one more item is skipped
pub after-next : (p mid item left : List ℕ) (k n : ℕ) → IsAfterItems p k mid → split mid ≡ item ∷ split left → mid ≡ item ++ left → n ≡ k + 1
    → IsAfterItems p n left
after-next p mid item left k n is parts whole next = after-both p mid left k 1 n is (after-item mid item left parts whole) next

-- what is left of bytes is bytes
bytes_left : (p left : List ℕ) (k : ℕ) → AreBytes p → IsAfterItems p k left → AreBytes left
bytes_left p left k bytes is =
    let front : List ℕ = concat (take k (split p)) in
    let same : drop (length front) p ≡ left = ap (drop (length front)) is.whole ∙ drop_at front left (length front) refl in
    All-same (λ byte. byte < 2 ^ 8) left (drop (length front) p) (sym same) (All-drop (λ byte. byte < 2 ^ 8) (length front) p bytes)

-- a string is skipped by its first byte
pub after-short : (p mid left : List ℕ) (k n m : ℕ) → IsAfterItems p k mid → AreBytes p → 0 < length mid → get_or mid 0 0 < 0xb8
    → m ≡ 1 + (get_or mid 0 0 - 0x80) → m ≤ length mid → left ≡ drop m mid → n ≡ k + 1 → IsAfterItems p n left
after-short p mid left k n m is bytes some short long within same next =
    rw same (after-next p mid (take m mid) (drop m mid) k n is (split_short mid m (bytes_left p mid k bytes is) some short long within) (sym (take-append-drop m mid)) next)

-- the same at place i, for a string whose first byte is known
after-place : (p mid : List ℕ) (first k n i j m : ℕ) → IsAfterItems p k (drop i mid) → AreBytes p → get_or mid i 0 ≡ first → first < 0xb8
    → m ≡ 1 + (first - 0x80) → i + m ≤ length mid → n ≡ k + 1 → j ≡ i + m → IsAfterItems p n (drop j mid)
after-place p mid first k n i j m is bytes same short long within next end =
    let here : get_or (drop i mid) 0 0 ≡ first = get_or-drop i mid 0 0 ∙ ap (λ l. get_or mid l 0) (let h : i + 0 ≡ i = omega arith in h) ∙ same in
    let room : length (drop i mid) ≡ length mid - i = length-drop i mid in
    let there : drop j mid ≡ drop m (drop i mid) = ap (λ l. drop l mid) end ∙ sym (drop-drop m i mid) in
    after-short p (drop i mid) (drop j mid) k n m is bytes (omega arith) (omega arith) (omega arith) (omega arith) there next

-- four strings with the same first byte are skipped
pub after-four : (p mid left : List ℕ) (first k n m : ℕ) → IsAfterItems p k mid → AreBytes p → get_or mid 0 0 ≡ first → get_or mid m 0 ≡ first
    → get_or mid (2 * m) 0 ≡ first → get_or mid (3 * m) 0 ≡ first → first < 0xb8 → m ≡ 1 + (first - 0x80) → 4 * m ≤ length mid
    → left ≡ drop (4 * m) mid → n ≡ k + 4 → IsAfterItems p n left
after-four p mid left first k n m is bytes one two three four short long within same next =
    let a : IsAfterItems p (k + 1) (drop m mid) = after-place p mid first k (k + 1) 0 m m is bytes one short long (omega arith) (omega arith) (omega arith) in
    let b : IsAfterItems p (k + 2) (drop (2 * m) mid) = after-place p mid first (k + 1) (k + 2) m (2 * m) m a bytes two short long (omega arith) (omega arith) (omega arith) in
    let c : IsAfterItems p (k + 3) (drop (3 * m) mid) = after-place p mid first (k + 2) (k + 3) (2 * m) (3 * m) m b bytes three short long (omega arith) (omega arith) (omega arith) in
    rw same (after-place p mid first (k + 3) n (3 * m) (4 * m) m c bytes four short long (omega arith) (omega arith) (omega arith))

-- no item is left to skip
pub after-all : (p left : List ℕ) (k n : ℕ) → IsAfterItems p k left → split left ≡ [] → k < n → (length (split p) < n) × (fault left ≡ fault (after_items p))
after-all p left k n is none fewer =
    let gone : length (split p) - k ≡ 0 = sym (length-drop k (split p)) ∙ ap length (sym is.others ∙ none) in
    let whole : p ≡ concat (split p) ++ left = is.whole ∙ ap (λ fs. concat fs ++ left) (take_all k (split p) (omega arith)) in
    let after : after_items p ≡ left = ap (drop (length (concat (split p)))) whole ∙ drop_at (concat (split p)) left (length (concat (split p))) refl in
    (omega (arith, is.enough), ap fault (sym after))

pub ruleset skips = (after-none, after-both, after-next, after-all)
