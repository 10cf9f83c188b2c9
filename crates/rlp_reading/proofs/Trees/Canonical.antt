-- Bytes that are and aren't the encoding of an item within a depth, and their first fault.
use Rattle.std.proofs.{lemmas.List.{drop-set-lt}, Common.{◌≡◌, ℕ, ◌-◌, ◌^◌, ◌<◌, ◌≤◌, ◌↔◌, Bool, true, false, List, [], ◌∷◌, ◌++◌, length, refl, sym, ap, ◌∙◌, subst}}
use Rattle.std.proofs.{Common.{arith, append-nil, IsTrue, Some, None, ◌≢◌, Option}, lemmas.Bool.{cond-true, cond-false}}
use Rattle.rlp_format.specs.{Format.Encoding.{Item, Items, string, list, listed, list_of, item_depth, items_depth, encoding, join, IsSized, item_and, no_items}}
use Rattle.rlp_format.proofs.{Lemmas.Encodings.{items_from-listed, AllSized, list_written, parts_sized}}
use Rattle.rlp_reading.specs.{declared.error.DecoderError.{DecoderError}, Format.Framing.{begins_as_list, payload, split, IsCanonicalWithin, strict_fault, fault, read_string}}
use Rattle.rlp_reading.specs.{declared.error.DecoderError.TheVariants.RlpInvalidIndirection, declared.flat.TreeFault.TreeFault}
use Rattle.rlp_reading.specs.declared.flat.TreeFault.TheVariants.{Decoding, TooDeep}
use Rattle.rlp_reading.specs.Format.TreeFaults.{first_in, is_needless, payload_fault, needless_fault, tree_fault, walk_fault}
use Rattle.rlp_reading.proofs.{Lemmas.Views.{payload_of_list, strict_fault-encoding}, Lemmas.Numbered.{split-nil, after_items-next}}
use Rattle.rlp_reading.proofs.{Lemmas.{Views.front_kind, WholeLists.whole_sized, Frames.split_join, Strings.string_only}}
use Rattle.std.proofs.{Common.{ltb, lt-ltb, Ok, Err}, lemmas.List.Elements.All-from_recursion}
use Rattle.std.specs.List.{AllByRecursion}

pub not_whole : (b : List ℕ) (most : ℕ) (e : DecoderError) → length b < 2 ^ 64 → strict_fault b ≡ Some e → ¬ IsCanonicalWithin most b
not_whole b most e fits some canonical = grind (arith, strict_fault-encoding)

pub refuted : {P : Type 0} → (P → ⊥) → IsTrue false ↔ P
refuted none = (λ t. absurd (let no : ⊥ = cc in no), λ p. absurd (none p))

pub confirmed : {P : Type 0} → P → IsTrue true ↔ P
confirmed p = (λ t. p, λ q. refl)

-- ---- one item

pub walk_fault-string : (left : ℕ) (f : List ℕ) → begins_as_list f ≡ false → walk_fault left f ≡ needless_fault f
unfolding walk_fault
walk_fault-string left f kind = grind arith

pub walk_fault-deep : (left : ℕ) (f : List ℕ) → begins_as_list f ≡ true → left ≡ 0 → walk_fault left f ≡ Some TooDeep
unfolding walk_fault
walk_fault-deep left f kind none = grind arith

pub walk_fault-list : (left : ℕ) (f : List ℕ) → begins_as_list f ≡ true → left ≢ 0 → walk_fault left f ≡ payload_fault (walk_fault (left - 1)) (payload f)
unfolding walk_fault
walk_fault-list left f kind some = grind arith

pub needless_fault-none : (f : List ℕ) → is_needless f ≡ false → needless_fault f ≡ None
needless_fault-none f is = cond-false (is_needless f) _ _ is

pub needless_fault-some : (f : List ℕ) → is_needless f ≡ true → needless_fault f ≡ Some (Decoding RlpInvalidIndirection)
needless_fault-some f is = cond-true (is_needless f) _ _ is

-- ---- the items of a payload

module _ (item_fault : List ℕ → Option TreeFault) (rest item others : List ℕ) (parts : split rest ≡ item ∷ split others) where
  -- an item without a fault
  pub payload_fault-next : rest ≡ item ++ others → item_fault item ≡ None → payload_fault item_fault rest ≡ payload_fault item_fault others
  payload_fault-next whole none = grind (arith, after_items-next)

  -- an item with a fault
  pub payload_fault-item : (e : TreeFault) → item_fault item ≡ Some e → payload_fault item_fault rest ≡ Some e
  payload_fault-item e some = grind arith

-- bytes that aren't an item
pub payload_fault-stray : (item_fault : List ℕ → Option TreeFault) (rest : List ℕ) → split rest ≡ [] → 0 < length rest
    → payload_fault item_fault rest ≡ Some (Decoding (fault rest))
payload_fault-stray item_fault rest none some = grind arith

-- no bytes
pub payload_fault-none : (item_fault : List ℕ → Option TreeFault) (rest : List ℕ) → rest ≡ [] → payload_fault item_fault rest ≡ None
payload_fault-none item_fault rest none = grind (arith, split-nil)

-- ---- the whole

pub tree_fault-frame : (most : ℕ) (b : List ℕ) (e : DecoderError) → strict_fault b ≡ Some e → tree_fault most b ≡ Some (Decoding e)
unfolding tree_fault
tree_fault-frame most b e is = ap (λ o. first_in o (walk_fault most b)) is

pub tree_fault-inside : (most : ℕ) (b : List ℕ) (e : TreeFault) → strict_fault b ≡ None → walk_fault most b ≡ Some e → tree_fault most b ≡ Some e
unfolding tree_fault
tree_fault-inside most b e whole is = ap (λ o. first_in o (walk_fault most b)) whole ∙ is

-- ---- the encoding of an item within the depth

-- a needless header stands in front of one byte
needless_bytes : (b : List ℕ) → is_needless b ≡ true → (byte : ℕ) × (b ≡ 0x81 ∷ byte ∷ []) × (byte < 0x80)
needless_bytes b is = grind arith

needless_unread : (byte : ℕ) → byte < 0x80 → read_string (0x81 ∷ byte ∷ []) ≡ Err RlpInvalidIndirection
unfolding read_string
needless_unread byte low = cond-true (ltb byte 0x80) _ _ (lt-ltb byte 0x80 low)

-- such bytes are no string's encoding
not_needless : (s : List ℕ) → IsSized (string s) → is_needless (encoding (string s)) ≡ false
not_needless s sized = by (is_needless (encoding (string s))) refl
  where
    by : (needless : Bool) → is_needless (encoding (string s)) ≡ needless → needless ≡ false
    by false is = refl
    by true is =
        let (byte, same, low) = needless_bytes (encoding (string s)) is in
        let read = string_only (encoding (string s)) s sized ([], sym (append-nil (encoding (string s)))) in
        let no : Ok s ≡ Err RlpInvalidIndirection = sym read ∙ ap read_string same ∙ needless_unread byte low in
        absurd (let none : ⊥ = cc in none)

sized_listed : (ys : Items) → AllSized ys → AllByRecursion IsSized (listed ys)
sized_listed no_items sized = tt
sized_listed (item_and y ys) (one, sized) = (one, sized_listed ys sized)

mutual
  -- the encoding has no fault
  walk_fault-encoding : (most : ℕ) (x : Item) → IsSized x → item_depth x ≤ most → walk_fault most (encoding x) ≡ None
  walk_fault-encoding most (string s) sized deep =
      walk_fault-string most (encoding (string s)) (front_kind (string s) (encoding (string s)) sized ([], sym (append-nil (encoding (string s)))))
      ∙ needless_fault-none (encoding (string s)) (not_needless s sized)
  walk_fault-encoding most (list ys) sized deep =
      let same : list ys ≡ list_of (listed ys) = sym (ap list (items_from-listed ys)) in
      let whole : encoding (list ys) ≡ encoding (list_of (listed ys)) ++ [] = ap encoding same ∙ sym (append-nil (encoding (list_of (listed ys)))) in
      walk_fault-list most (encoding (list ys)) (front_kind (list ys) (encoding (list ys)) sized ([], sym (append-nil (encoding (list ys))))) (λ none. omega (arith, none, deep))
      ∙ ap (payload_fault (walk_fault (most - 1))) (payload_of_list (listed ys) (encoding (list ys)) (subst IsSized same sized) ([], whole))
      ∙ payload_fault-encodings (most - 1) ys (parts_sized ys (list_written ys sized).small) (omega (arith, deep))

  payload_fault-encodings : (most : ℕ) (ys : Items) → AllSized ys → items_depth ys ≤ most → payload_fault (walk_fault most) (join (listed ys)) ≡ None
  payload_fault-encodings most no_items sized deep = payload_fault-none (walk_fault most) [] refl
  payload_fault-encodings most (item_and y ys) (one, sized) deep =
      let parts : split (encoding y ++ join (listed ys)) ≡ encoding y ∷ split (join (listed ys)) =
      split_join (y ∷ listed ys) (All-from_recursion IsSized (y ∷ listed ys) (one, sized_listed ys sized))
      ∙ ap (λ fs. encoding y ∷ fs) (sym (split_join (listed ys) (All-from_recursion IsSized (listed ys) (sized_listed ys sized)))) in
      payload_fault-next (walk_fault most) (encoding y ++ join (listed ys)) (encoding y) (join (listed ys)) parts refl
      (walk_fault-encoding most y one (omega arith))
      ∙ payload_fault-encodings most ys sized (omega arith)

-- bytes with a fault are no such encoding
pub fault_refutes : (most : ℕ) (b : List ℕ) (e : TreeFault) → length b < 2 ^ 64 → walk_fault most b ≡ Some e → ¬ IsCanonicalWithin most b
fault_refutes most b e fits fault (x, is, deep) =
    let none : walk_fault most b ≡ None = ap (walk_fault most) is ∙ walk_fault-encoding most x (whole_sized x b fits is) deep in cc

pub ruleset puts = (drop-set-lt)
