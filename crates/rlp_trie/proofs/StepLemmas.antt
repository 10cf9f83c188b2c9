-- What a node says of a path goes by its item, and leads on by a shorter path.
use Rattle.std.proofs.Common.{◌≡◌, ◌≢◌, ◌<◌, ◌+◌, ◌++◌, ℕ, zero, suc, Bool, true, false, if◌then◌else◌, IfSome, List, [], ◌∷◌, length, get_or, drop, refl, sym, ap, ◌∙◌, subst, arith, length-append}
use Rattle.std.proofs.{Common.{Option, Some, None}, lemmas.Bool.Decides.Decides-eqb, lemmas.List.Elements.{All-drop, All-head, All-tail}, lemmas.Slice.Eq.{starts_is}}
use Rattle.std.specs.{List.starts_with, Prelude.nat_eq, Vec.vec_items}
use Rattle.rlp.specs.{Codec.{Codec, Fields, byte_string, each, end, field}, Format.Encoding.{Item, string, items_from, listed, list_of}}
use Rattle.rlp_format.proofs.Lemmas.Encodings.{listed_from}
use Rattle.rlp_trie.specs.{BranchChild.place_item, BranchChildLaws.branch_child, Child.{IsChild, child_item}, ChildLaws.child_some}
use Rattle.rlp_trie.specs.{HexPrefix.{AreNibbles, path_nibbles}, Lookup.{branch_value, ends, goes, place_step, step}}
use Rattle.rlp_trie.specs.{Trie.{branch, branch_fields, child_at, extension, leaf}, TrieNode.{IsTrieNode, node_item}, declared.branch.Branch.Branch}
use Rattle.rlp_trie.specs.{declared.child.Child.Child, declared.leaf.Extension.Extension, declared.leaf.Leaf.Leaf, declared.trie_node.TrieNode.{TrieNode}}
use Rattle.rlp_trie.specs.declared.trie_node.TrieNode.TheVariants as node
use Rattle.rlp_trie.proofs.PathLemmas.{some_nibbles}

abbrev IsNibble : ℕ → Type 0
IsNibble n = n < 16

-- ---- the fields of a branch by number

module _ {A P : Type 0} (value : ℕ → P → A) (c : Codec A) (more : Fields P) (p : P) where
  -- the item of each of the first fields
  each_at : (d : Item) (n k j : ℕ) → j < n → get_or ((each value c more k n).items p) j d ≡ c.item (value (k + j) p)
  each_at d zero k j few = absurd (omega (arith, few))
  each_at d (suc n) k zero few = grind arith
  each_at d (suc n) k (suc j) few = grind (arith, each_at d n (suc k) j)

  -- each of them fits
  each_fit_at : (n k j : ℕ) → j < n → (each value c more k n).Fits p → c.Fits (value (k + j) p)
  each_fit_at zero k j few fit = absurd (omega (arith, few))
  each_fit_at (suc n) k zero few fit = subst (λ i. c.Fits (value i p)) (let same : k ≡ k + 0 = omega arith in same) fit.0
  each_fit_at (suc n) k (suc j) few fit =
      subst (λ i. c.Fits (value i p)) (let same : suc k + j ≡ k + suc j = omega arith in same) (each_fit_at n (suc k) j (omega (arith, few)) fit.1)

-- what comes after the sixteen places
abbrev pub last_field : Fields Branch
last_field = field (λ (b : Branch). b.value) (byte_string vec_items) end

child_of_place : (b : Branch) (nibble : ℕ) → nibble < 16 → get_or (branch_fields.items b) nibble (string []) ≡ place_item (child_at nibble b).0
child_of_place b nibble small = each_at child_at branch_child last_field b (string []) 16 0 nibble small ∙ ap (λ i. place_item (child_at i b).0)
    (let same : 0 + nibble ≡ nibble = omega arith in same)

place_fits : (b : Branch) (nibble : ℕ) → nibble < 16 → branch.Fits b → IfSome (child_at nibble b).0 IsChild
place_fits b nibble small fit = subst (λ i. IfSome (child_at i b).0 IsChild) (let same : 0 + nibble ≡ nibble = omega arith in same)
    (each_fit_at child_at branch_child last_field b 16 0 nibble small fit)

-- ---- the item of a node says the step

-- if two lists are the same item, they have the same items
list_same : (xs ys : List Item) → list_of xs ≡ list_of ys → xs ≡ ys
list_same xs ys same = let inner : items_from xs ≡ items_from ys = cc in sym (listed_from xs) ∙ ap listed inner ∙ listed_from ys

place_same : (o p : Option Child) (rest : List ℕ) → IfSome o IsChild → IfSome p IsChild → place_item o ≡ place_item p → place_step o rest ≡ place_step p rest
place_same None None rest fit other same = refl
place_same None (Some d) rest fit other same = absurd (child_some d other (sym same))
place_same (Some c) None rest fit other same = absurd (child_some c fit same)
place_same (Some c) (Some d) rest fit other same = ap (λ x. goes x rest) same

leaf_same : (l m : Leaf) (path : List ℕ) → leaf.item l ≡ leaf.item m → step (node.Leaf l) path ≡ step (node.Leaf m) path
leaf_same l m path same =
    let paths : vec_items l.path.bytes ≡ vec_items m.path.bytes = cc in
    let values : vec_items l.value ≡ vec_items m.value = cc in
    cc

extension_same : (e f : Extension) (path : List ℕ) → extension.item e ≡ extension.item f → step (node.Extension e) path ≡ step (node.Extension f) path
extension_same e f path same =
    let paths : vec_items e.path.bytes ≡ vec_items f.path.bytes = cc in
    let children : child_item e.child ≡ child_item f.child = cc in
    cc

branch_same : (b c : Branch) (path : List ℕ) → branch.Fits b → branch.Fits c → AreNibbles path → branch.item b ≡ branch.item c
    → step (node.Branch b) path ≡ step (node.Branch c) path
branch_same b c [] fit other are same =
    let items : branch_fields.items b ≡ branch_fields.items c = list_same (branch_fields.items b) (branch_fields.items c) same in
    let last : string (vec_items b.value) ≡ string (vec_items c.value) = ap (λ (xs : List Item). get_or xs 16 (string [])) items in
    let values : vec_items b.value ≡ vec_items c.value = cc in
    ap (λ (v : List ℕ). ends (branch_value v)) values
branch_same b c (nibble ∷ rest) fit other are same =
    let small : nibble < 16 = All-head IsNibble nibble rest are in
    let items : branch_fields.items b ≡ branch_fields.items c = list_same (branch_fields.items b) (branch_fields.items c) same in
    place_same (child_at nibble b).0 (child_at nibble c).0 rest (place_fits b nibble small fit) (place_fits c nibble small other)
    (sym (child_of_place b nibble small) ∙ ap (λ (xs : List Item). get_or xs nibble (string [])) items ∙ child_of_place c nibble small)

-- no leaf is written as an extension is
leaf_apart : (l : Leaf) (e : Extension) → leaf.item l ≡ extension.item e → ⊥
leaf_apart l e same =
    let is_leaf = l.path.encoded in
    let is_extension = e.path.encoded in
    let paths : vec_items l.path.bytes ≡ vec_items e.path.bytes = cc in
    cc

-- nodes with one item say the same of a path
pub same_step : (n m : TrieNode) (path : List ℕ) → IsTrieNode n → IsTrieNode m → AreNibbles path → node_item n ≡ node_item m → step n path ≡ step m path
same_step node.Empty node.Empty path fit other are same = refl
same_step (node.Leaf l) (node.Leaf m) path fit other are same = leaf_same l m path same
same_step (node.Leaf l) (node.Extension f) path fit other are same = absurd (leaf_apart l f same)
same_step (node.Extension e) (node.Leaf m) path fit other are same = absurd (leaf_apart m e (sym same))
same_step (node.Extension e) (node.Extension f) path fit other are same = extension_same e f path same
same_step (node.Branch b) (node.Branch c) path fit other are same = branch_same b c path fit other are same
same_step n m path fit other are same = absurd (let no : ⊥ = cc in no)

-- ---- the rest of a path

-- the rest of a path is nibbles, and shorter
abbrev pub IsRest : List ℕ → List ℕ → Type 0
IsRest path rest = AreNibbles rest × (length rest < length path)

extension_rest : (own : List ℕ) (x next : Item) (path rest : List ℕ) (t : Bool) → starts_with nat_eq path own ≡ t → own ≢ []
    → (if t then goes x (drop (length own) path) else ends None) ≡ goes next rest → AreNibbles path → IsRest path rest
extension_rest own x next path rest false begins some is are = absurd (let no : ⊥ = cc in no)
extension_rest [] x next path rest true begins some is are = absurd (some refl)
extension_rest (nibble ∷ own) x next path rest true begins some is are =
    let same : drop (length (nibble ∷ own)) path ≡ rest = cc in
    let whole : path ≡ (nibble ∷ own) ++ drop (length (nibble ∷ own)) path =
    (starts_is Decides-eqb path (nibble ∷ own) (starts_with nat_eq path (nibble ∷ own)) refl).0 begins in (
      subst AreNibbles same (All-drop IsNibble (length (nibble ∷ own)) path are),
      omega (arith, ap length whole, ap length same, length-append (nibble ∷ own) (drop (length (nibble ∷ own)) path)),
    )

place_rest : (o : Option Child) (next : Item) (nibble : ℕ) (more rest : List ℕ) → place_step o more ≡ goes next rest → AreNibbles (nibble ∷ more)
    → IsRest (nibble ∷ more) rest
place_rest None next nibble more rest is are = absurd (let no : ⊥ = cc in no)
place_rest (Some c) next nibble more rest is are =
    let same : more ≡ rest = cc in (subst AreNibbles same (All-tail IsNibble nibble more are), omega (arith, ap length same))

-- a node leads on by a shorter path
pub step_rest : (n : TrieNode) (path rest : List ℕ) (next : Item) → step n path ≡ goes next rest → AreNibbles path → IsRest path rest
step_rest (node.Extension e) path rest next is are =
    let own = path_nibbles (vec_items e.path.bytes) in
    extension_rest own (child_item e.child) next path rest (starts_with nat_eq path own) refl
    (some_nibbles (vec_items e.path.bytes) e.path.encoded e.path.some_nibble) is are
step_rest (node.Branch b) (nibble ∷ more) rest next is are = place_rest (child_at nibble b).0 next nibble more rest is are
step_rest n path rest next is are = absurd (let no : ⊥ = cc in no)
