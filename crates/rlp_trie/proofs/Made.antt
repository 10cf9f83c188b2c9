-- Nodes of the trie, as values, for the items of a leaf, an extension and a branch.
use Rattle.std.proofs.Common.{◌≡◌, ◌≢◌, ◌^◌, ◌<◌, ◌≤◌, ◌+◌, ◌∙◌, ap, ℕ, zero, suc, Bool, true, false, if◌then◌else◌, List, [], ◌∷◌, ◌++◌, get_or, length, refl, sym, subst, arith, Option, Some, None}
use Rattle.std.proofs.lemmas.{Bool.Decides.nat_tests, Bool.cond-true, Bool.cond-false}
use Rattle.std.specs.{Global.{Global, Vec}, Prelude.{Contains, nat_lt}, Str.bytes_eq}
use denote.RawPtr.{null_ptr}
use Rattle.rlp.specs.{Codec.{Codec, Fields, each}, Format.Encoding.{Item, encoding, is_list, item_depth, list, list_of, string}, Values.RawItem.raw_item_of}
use Rattle.rlp_reading.proofs.RawLaws.{list_by, raw_item_of-encoding}
use Rattle.rlp_records.specs.Keccak.{keccak256}
use Rattle.rlp_trie.specs.{BranchChild.{IsPlace, place_item}, BranchChildLaws.branch_child, Child.{IsChild, child_item}, EmptyStringLaws.empty_string}
use Rattle.rlp_trie.specs.HexPrefix.{AreNibbles, hex_prefix, is_leaf_flag}
use Rattle.rlp_trie.specs.{Lookup.{Encodes, Step, StandsFor, by_hash, ends, extension_step, in_parent, place_step, step}, Ordered.{branch_item, extension_item, if_named, in_turn, leaf_item, reference}}
use Rattle.rlp_trie.specs.{Trie.{child_at, leaf}, declared.branch.Branch.Branch, declared.branch_child.BranchChild.BranchChild}
use Rattle.rlp_trie.specs.{declared.child.Child.Child, declared.leaf.Extension.Extension, declared.leaf.Leaf.Leaf}
use Rattle.rlp_trie.specs.{declared.path.Path.Path, declared.trie_node.TrieNode.TrieNode}
use Rattle.rlp_trie.specs.declared.child.Child.TheVariants as child
use Rattle.rlp_trie.specs.declared.trie_node.TrieNode.TheVariants as node
use Rattle.rlp_trie.proofs.{NodeSizes.{depth_length, hash_length, hex_prefix_length}, PathLemmas.{not_empty_again, path_again}, StepLemmas.last_field}

pub global : Global
global = record { memory = record { seal = tt } }

-- ---- values from bytes

-- a vector with these bytes
abbrev pub vec_of : (d : List ℕ) → length d < 2 ^ 63 → Vec ℕ
vec_of d small = record { ptr = null_ptr; len = length d; cap = length d; alloc = global; items = d; ok = (refl, omega arith); small = small }

pub prefix_small : (leaf : Bool) (x : List ℕ) → length x < 2 ^ 62 → length (hex_prefix leaf x) < 2 ^ 63
prefix_small leaf x short = omega (arith, short, hex_prefix_length leaf x)

-- the path of these nibbles
abbrev pub made_path : (flag : ℕ) (x : List ℕ) → AreNibbles x → (is_leaf_flag flag ≡ false → x ≢ []) → length x < 2 ^ 62 → Path flag
made_path flag x are some short = record {
  bytes = vec_of (hex_prefix (is_leaf_flag flag) x) (prefix_small (is_leaf_flag flag) x short);
  encoded = (path_again (is_leaf_flag flag) x are).0;
  some_nibble = not_empty_again (is_leaf_flag flag) (hex_prefix (is_leaf_flag flag) x) x are refl some;
}

-- ---- leaves

-- a node that the bytes of an item are the encoding of, and what it says of each path
pub record MadeNode (x : Item) (says : List ℕ → Step → Type 0) : Type 0 where
  pub node : TrieNode
  pub are : Encodes (encoding x) node
  pub told : (path : List ℕ) → says path (step node path)

pub made_leaf : (x v : List ℕ) → AreNibbles x → length x < 2 ^ 62 → length v < 2 ^ 63 → length (encoding (leaf_item x v)) < 2 ^ 64
    → MadeNode (leaf_item x v) (λ path s. s ≡ ends (if bytes_eq x path then Some v else None))
made_leaf x v are short small sized =
    let l : Leaf = record { path = made_path 2 x are (λ no. absurd (let e : ⊥ = cc in e)) short; value = vec_of v small } in
    record {
      node = node.Leaf l;
      are = record { fits = (tt, (tt, tt)); is = refl; sized = sized };
      told = λ path. ap (λ y. ends (if bytes_eq y path then Some v else None)) (path_again true x are).1;
    }

pub made_empty : MadeNode (string []) (λ path s. s ≡ ends None)
made_empty = record {
  node = node.Empty;
  are = record { fits = tt; is = refl; sized = (let one : length (encoding (string [])) ≡ 1 = ap length empty_string in omega (arith, one)) };
  told = λ path. refl;
}

-- ---- children

-- the child that a node of this item is for its parent
pub record ChildFor (x : Item) : Type 0 where
  pub made : Child
  pub is : IsChild made
  pub same : child_item made ≡ reference x

kept_child : (x : Item) → is_list x ≡ true → length (encoding x) < 32 → ChildFor x
kept_child x kind few =
    let small : length (encoding x) < 2 ^ 64 = omega (arith, few) in
    let deep : item_depth x ≤ 256 = omega (arith, few, depth_length x small) in
    let same : raw_item_of (encoding x) ≡ x = raw_item_of-encoding (encoding x) x small refl deep in
    let short : nat_lt (length (encoding x)) 32 ≡ true = grind (arith, nat_tests) in
    record {
      made = child.Inline (record { item = encoding x; is_list = list_by x (encoding x) small refl ∙ kind; is_short = few });
      is = ap encoding (sym same);
      same = same ∙ sym (cond-true (nat_lt (length (encoding x)) 32) _ _ short);
    }

named_child : (x : Item) → 32 ≤ length (encoding x) → ChildFor x
named_child x many =
    let long : nat_lt (length (encoding x)) 32 ≡ false = grind (arith, nat_tests) in
    record {
      made = child.Node (record { 0 = keccak256 (encoding x) });
      is = hash_length (encoding x);
      same = sym (cond-false (nat_lt (length (encoding x)) 32) _ _ long);
    }

pub child_for : (x : Item) → is_list x ≡ true → ChildFor x
child_for x kind = by (nat_lt (length (encoding x)) 32) refl
  where
    by : (t : Bool) → nat_lt (length (encoding x)) 32 ≡ t → ChildFor x
    by true short = kept_child x kind (let few : length (encoding x) < 32 = grind (arith, nat_tests) in few)
    by false long = named_child x (let many : 32 ≤ length (encoding x) = grind (arith, nat_tests) in many)

stands_by : (Known : List ℕ → Type 0) (x : Item) (t : Bool) → is_list x ≡ true
    → ((b : List ℕ) → Contains (if t then [] else encoding x ∷ []) b → Known b)
    → StandsFor Known (if t then x else string (keccak256 (encoding x))) (encoding x)
stands_by Known (string d) true kind known = absurd (let no : ⊥ = cc in no)
stands_by Known (list xs) true kind known = in_parent xs
stands_by Known x false kind known = by_hash (keccak256 (encoding x)) (encoding x) (known (encoding x) (0, omega arith, refl)) refl

-- the reference to a child stands for it
pub child_stands : (Known : List ℕ → Type 0) (x : Item) → is_list x ≡ true → ((b : List ℕ) → Contains (if_named x) b → Known b)
    → StandsFor Known (reference x) (encoding x)
child_stands Known x kind known = stands_by Known x (nat_lt (length (encoding x)) 32) kind known

-- ---- extensions

pub made_extension : (x : List ℕ) (inner : Item) → AreNibbles x → x ≢ [] → length x < 2 ^ 62 → is_list inner ≡ true
    → length (encoding (extension_item x inner)) < 2 ^ 64
    → MadeNode (extension_item x inner) (λ path s. s ≡ extension_step x (reference inner) path)
made_extension x inner are some short kind sized =
    let c = child_for inner kind in
    let e : Extension = record { path = made_path 0 x are (λ no. some) short; child = c.made } in
    record {
      node = node.Extension e;
      are = record { fits = (tt, (c.is, tt)); is = ap (λ r. encoding (list_of (string (hex_prefix false x) ∷ r ∷ []))) (sym c.same); sized = sized };
      told = λ path. ap (λ y. extension_step y (child_item c.made) path) (path_again false x are).1 ∙ ap (λ r. extension_step x r path) c.same;
    }

-- ---- branches

pub in_turn_at : {A : Type 0} (f : ℕ → A) (d : A) (n k j : ℕ) → j < n → get_or (in_turn f k n) j d ≡ f (k + j)
in_turn_at f d zero k j few = absurd (omega (arith, few))
in_turn_at f d (suc n) k zero few = ap f (let same : k ≡ k + 0 = omega arith in same)
in_turn_at f d (suc n) k (suc j) few = in_turn_at f d n (suc k) j (omega (arith, few)) ∙ ap f (let same : suc k + j ≡ k + suc j = omega arith in same)

pub in_turn_same : {A : Type 0} (f g : ℕ → A) (n k : ℕ) → ((j : ℕ) → f j ≡ g j) → in_turn f k n ≡ in_turn g k n
in_turn_same f g zero k same = refl
in_turn_same f g (suc n) k same = let rest = in_turn_same f g n (suc k) same in let first = same k in cc

module _ {A P : Type 0} (value : ℕ → P → A) (c : Codec A) (more : Fields P) (p : P) where
  each_fit : (n k : ℕ) → ((j : ℕ) → j < k + n → c.Fits (value j p)) → more.Fits p → (each value c more k n).Fits p
  each_fit zero k all last = last
  each_fit (suc n) k all last = (all k (omega arith), each_fit n (suc k) (λ j few. all j (omega (arith, few))) last)

-- the branch with these children and no value
abbrev pub made_branch : (ℕ → Option Child) → Branch
made_branch f = record { children = in_turn (λ k. let c : BranchChild = record { 0 = f k } in c) 0 16; value = vec_of [] (omega arith) }

branch_child_at : (f : ℕ → Option Child) (k : ℕ) → k < 16 → (child_at k (made_branch f)).0 ≡ f k
branch_child_at f k small =
    ap (λ (c : BranchChild). c.0) (in_turn_at (λ k. let c : BranchChild = record { 0 = f k } in c) (record { 0 = None }) 16 0 k small)
    ∙ ap f (let same : 0 + k ≡ k = omega arith in same)

-- what the branch says of a path, by its children
abbrev pub IsBranchStep : (ℕ → Option Child) → List ℕ → Step → Type 0
IsBranchStep f [] s = s ≡ ends None
IsBranchStep f (k ∷ rest) s = k < 16 → s ≡ place_step (f k) rest

pub branch_of : (f : ℕ → Option Child) (g : ℕ → Item) → ((k : ℕ) → IsPlace (f k)) → ((k : ℕ) → place_item (f k) ≡ reference (g k))
    → length (encoding (branch_item g)) < 2 ^ 64 → MadeNode (branch_item g) (IsBranchStep f)
branch_of f g are same sized =
    let b : Branch = made_branch f in
    record {
      node = node.Branch b;
      are = record {
        fits = each_fit child_at branch_child last_field b 16 0
            (λ j few. subst IsPlace (sym (branch_child_at f j few)) (are j)) (tt, tt);
        is = ap (λ xs. encoding (list_of (xs ++ string [] ∷ []))) (sym (in_turn_same (λ k. place_item (f k)) (λ k. reference (g k)) 16 0 same));
        sized = sized;
      };
      told = told;
    }
  where
    told : (path : List ℕ) → IsBranchStep f path (step (node.Branch (made_branch f)) path)
    told [] = refl
    told (k ∷ rest) = λ small. ap (λ o. place_step o rest) (branch_child_at f k small)
