-- Children are read back, and are read only from their encodings.
use Rattle.std.proofs.{Common.{◌≡◌, ◌≢◌, ◌<◌, ◌^◌, inl, inr, ℕ, true, false, List, [], length, refl, sym, ap, ◌∙◌, subst, arith, Ok}, lemmas.Bool.{cond-true, cond-false}}
use Rattle.std.specs.Prelude.{nat_le}
use Rattle.rlp.specs.{Format.Encoding.{string, IsSized, encoding, AreBytes}, Format.Framing.begins_as_list, Values.RawItem.raw_item_of}
use Rattle.rlp.specs.{Form.{here, map_value, raw_of}, Codec.{Codec, lawful}}
use Rattle.rlp_reading.proofs.{RawLaws.{raw_is, string_kind, ReadsItems, items_lawful, raw_fits, raw_given, raw_of-canonical}, StringLaws.array_lawful}
use Rattle.rlp_reading.specs.FirstItems.{item_type}
use Rattle.rlp_records.proofs.Alone.{left_only, not_left, not_right, right_only}
use Rattle.rlp_trie.specs.{Child.{IsChild, child_item, child_of, hash_of, inline_of, seen_child, written_child}, declared.child.Child.Child}
use Rattle.rlp_trie.specs.{declared.child.Child.TheVariants.{Node, Inline}, declared.inline_node.InlineNode.InlineNode}

-- ---- what is written is read

inline_back : (node : InlineNode) → IsChild (Inline node) → child_of node.item ≡ Ok (inr node.item)
inline_back node is =
    let few : length node.item < 32 = node.is_short in
    let short : length node.item < 2 ^ 64 = omega (arith, few) in
    cond-true (begins_as_list node.item) _ _ node.is_list
    ∙ ap (map_value inr) (cond-false (nat_le 32 (length node.item)) _ _ (let low : nat_le 32 (length node.item) ≡ false = grind arith in low)
    ∙ raw_of-canonical node.item short (raw_is node.item ((raw_fits node.item short).0 is)))

pub child_back : (c : Child) → IsChild c → IsSized (child_item c) → child_of (encoding (child_item c)) ≡ Ok (seen_child c)
child_back (Node hash) is sized =
    let b = encoding (string hash.0) in
    cond-false (begins_as_list b) _ _ (string_kind b hash.0 sized refl)
    ∙ ap (map_value inl) (((array_lawful 32).back true).back b hash.0 sized is refl)
child_back (Inline node) is sized = ap child_of (sym is) ∙ inline_back node is

-- ---- and nothing else

pub child_only : (b : List ℕ) (c : Child) → AreBytes b → length b < 2 ^ 64 → child_of b ≡ Ok (seen_child c) → IsChild c × (b ≡ encoding (child_item c))
child_only b (Node hash) bytes fits is =
    let read : hash_of b ≡ Ok hash.0 = grind (arith, left_only {N = List ℕ} (hash_of b) hash.0, not_right {M = List ℕ} (inline_of b) hash.0) in
    (array_lawful 32).exact.only b hash.0 bytes fits read
child_only b (Inline node) bytes fits is =
    let read : raw_of b ≡ Ok node.item = grind (arith, right_only {M = List ℕ} (inline_of b) node.item, not_left {N = List ℕ} (hash_of b) node.item) in
    let h = raw_given b node.item read in (h.0, h.1 ∙ h.0)

pub child_fits : (c d : Child) → seen_child c ≡ seen_child d → IsChild c → IsChild d
child_fits (Node hash) (Node other) same is = subst (λ d. length d ≡ 32) (let bytes : hash.0 ≡ other.0 = cc in bytes) is
child_fits (Inline node) (Inline other) same is =
    subst (λ d. d ≡ encoding (raw_item_of d)) (let bytes : node.item ≡ other.item = cc in bytes) is
child_fits c d same is = absurd (let no : ⊥ = cc in no)

pub child_same : (c : Child) → written_child (seen_child c) ≡ child_item c
child_same (Node hash) = refl
child_same (Inline node) = refl

pub child_items : ReadsItems IsChild child_item seen_child written_child (λ b. here (child_of b))
child_items = record { back = child_back; only = child_only; fits = child_fits; same = child_same }

-- the first item
abbrev pub child : Codec Child
child = lawful (item_type IsChild child_item seen_child written_child (λ b. here (child_of b)) true) (items_lawful _ _ _ _ _ true child_items)

-- ---- what children are written as

-- no child is written as the empty string
pub child_some : (c : Child) → IsChild c → child_item c ≢ string []
child_some (Node hash) is = λ same. let none : hash.0 ≡ [] = cc in omega (arith, is, ap length none)
child_some (Inline node) is = λ same.
    let few : length node.item < 2 ^ 64 = (let short : length node.item < 32 = node.is_short in omega (arith, short)) in
    let other : begins_as_list node.item ≡ false = string_kind node.item [] few (is ∙ ap encoding same) in
    let kind = node.is_list in
    cc
