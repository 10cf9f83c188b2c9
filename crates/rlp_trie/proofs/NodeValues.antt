-- The node of pairs has the values of the pairs.
use Rattle.std.proofs.Common.{◌≡◌, ◌^◌, ◌<◌, ◌+◌, ◌∙◌, ap, ℕ, zero, suc, Bool, true, false, if◌then◌else◌, List, [], ◌∷◌, ◌++◌, drop, length, length-append, refl, sym, subst, arith, Option, Some, None}
use Rattle.std.proofs.lemmas.{Bool.Decides.nat_tests, List.Elements.{All-drop, All-head, All-tail, Contains-append_left, Contains-append_right}}
use Rattle.std.specs.{List.starts_with, Prelude.{Contains, nat_eq, nat_lt}}
use Rattle.rlp.specs.Format.Encoding.{Item, encoding, is_list, join, string}
use Rattle.rlp_trie.specs.{BranchChild.{IsPlace, place_item}, EmptyStringLaws.empty_string, HexPrefix.{AreNibbles, hex_prefix}, declared.child.Child.Child}
use Rattle.rlp_trie.specs.Lookup.{HasValue, StandsFor, Step, ends, ends_here, extension_step, goes, leads_on, place_step, step}
use Rattle.rlp_trie.specs.Ordered.{Pair, below, below_all, branch_item, extension_item, if_named, in_turn, joined, leaf_item, named, named_in, node, parent, reference, shared, value_at}
use Rattle.rlp_trie.proofs.Made.{IsBranchStep, MadeNode, branch_of, child_for, child_stands, made_empty, made_extension, made_leaf}
use Rattle.rlp_trie.proofs.{NodeSizes.{hex_prefix_length, join_length, list_length, reference_length, string_length}}
use Rattle.rlp_trie.proofs.PairLemmas.{AllBegin, AreShort, are_prefix_free, free_below, free_below_all, none_empty, shared_is, shared_length, shared_nibbles, short_below, short_below_all, value_below, value_below_all}

-- ---- kinds of nodes

-- no pairs make the empty string
pub node_none : (turns : ℕ) → node turns [] ≡ string []
unfolding node
node_none zero = refl
node_none (suc turns) = refl

parent_list : (inner : List Pair → Item) (ps : List Pair) (own : List ℕ) → is_list (parent inner ps own) ≡ true
parent_list inner ps [] = refl
parent_list inner ps (k ∷ own) = refl

-- pairs make a list
pub node_list : (turns : ℕ) (p : Pair) (ps : List Pair) → AreShort turns (p ∷ ps) → is_list (node turns (p ∷ ps)) ≡ true
unfolding node
node_list zero p ps (s, all) = absurd (omega (arith, s.path))
node_list (suc turns) p [] short = refl
node_list (suc turns) p (q ∷ ps) short = parent_list (node turns) (p ∷ q ∷ ps) (shared p.0 (q ∷ ps))

-- what is below nibbles with which all paths begin is some pair, if there is one
some_below : (k : ℕ) (p : Pair) (ps : List Pair) → AllBegin (k ∷ []) (p ∷ ps) → (q : Pair) × (qs : List Pair) × (below k (p ∷ ps) ≡ q ∷ qs)
some_below k ([], v) ps (all, rest) = absurd (let no : ⊥ = cc in no)
some_below k (n ∷ x, v) ps (all, rest) = ((x, v), below k ps, grind (arith, nat_tests))

some_below_all : (own : List ℕ) (p : Pair) (ps : List Pair) → AllBegin own (p ∷ ps) → (q : Pair) × (qs : List Pair) × (below_all own (p ∷ ps) ≡ q ∷ qs)
some_below_all [] p ps all = (p, ps, refl)
some_below_all (k ∷ own) p ps (first, more) =
    let (q, qs, is) = some_below k p ps (first, tt) in
    let (r, rs, also) = some_below_all own q qs (subst (AllBegin own) is more) in
    (r, rs, ap (below_all own) is ∙ also)

-- ---- one node

-- the node of pairs has their values, if the nodes below it are known
abbrev pub HasValues : (List ℕ → Type 0) → ℕ → List Pair → Type 0
HasValues Known turns ps =
    AreShort turns ps → are_prefix_free ps ≡ true → ((b : List ℕ) → Contains (named turns ps) b → Known b) → (r : Item)
    → StandsFor Known r (encoding (node turns ps)) → (path : List ℕ) → AreNibbles path → HasValue Known r path (value_at path ps)

-- the nodes below the node of pairs and itself, if its hash stands for it
abbrev pub inner_named : ℕ → List Pair → List (List ℕ)
inner_named turns qs = if_named (node turns qs) ++ named turns qs

-- what a place of a branch says of the rest of a path
abbrev said : List Pair → Item → List ℕ → Step
said [] r rest = ends None
said (q ∷ qs) r rest = goes r rest

-- the child of a branch for the pairs below a nibble
record PlaceFor (x : Item) (ps : List Pair) : Type 0 where
  place : Option Child
  is : IsPlace place
  same : place_item place ≡ reference x
  says : (rest : List ℕ) → place_step place rest ≡ said ps (reference x) rest

pub none_kept : reference (string []) ≡ string []
none_kept = ap (λ b. if nat_lt (length b) 32 then string [] else string (Rattle.rlp_records.specs.Keccak.keccak256 b)) empty_string

place_for : (turns : ℕ) (ps : List Pair) → AreShort turns ps → PlaceFor (node turns ps) ps
place_for turns [] short = record { place = None; is = tt; same = sym (ap reference (node_none turns) ∙ none_kept); says = λ rest. refl }
place_for turns (q ∷ qs) short =
    let c = child_for (node turns (q ∷ qs)) (node_list turns q qs short) in
    record { place = Some c.made; is = c.is; same = c.same; says = λ rest. ap (λ r. goes r rest) c.same }

joined_holds : (f : ℕ → List (List ℕ)) (n k j : ℕ) (b : List ℕ) → j < n → Contains (f (k + j)) b → Contains (joined f k n) b
joined_holds f zero k j b few held = absurd (omega (arith, few))
joined_holds f (suc n) k zero b few held =
    Contains-append_left (f k) (joined f (suc k) n) b (subst (λ i. Contains (f i) b) (let same : k + 0 ≡ k = omega arith in same) held)
joined_holds f (suc n) k (suc j) b few held =
    Contains-append_right (f k) (joined f (suc k) n) b
    (joined_holds f n (suc k) j b (omega (arith, few)) (subst (λ i. Contains (f i) b) (let same : k + suc j ≡ suc k + j = omega arith in same) held))

module _ (Known : List ℕ → Type 0) (turns : ℕ) (few : turns < 2 ^ 60) (p q : Pair) (ps : List Pair) (short : AreShort (suc turns) (p ∷ q ∷ ps))
    (free : are_prefix_free (p ∷ q ∷ ps) ≡ true) (inner : (qs : List Pair) → HasValues Known turns qs) where
  abbrev all : List Pair
  all = p ∷ q ∷ ps

  -- ---- a branch

  abbrev node_below : ℕ → Item
  node_below k = node turns (below k all)

  abbrev ref_below : ℕ → Item
  ref_below k = reference (node turns (below k all))

  place_below : (k : ℕ) → PlaceFor (node turns (below k all)) (below k all)
  place_below k = place_for turns (below k all) (short_below (suc turns) turns k all (omega arith) short)

  branch_sized : length (encoding (branch_item node_below)) < 2 ^ 64
  branch_sized =
      let inside = join_length ref_below 0 16 41 (string [] ∷ []) (λ j. reference_length (node turns (below j all))) in
      let last : length (join (string [] ∷ [])) ≡ 1 = ap (λ b. length (b ++ [])) empty_string in
      let whole = list_length (in_turn ref_below 0 16 ++ string [] ∷ []) (omega (arith, inside, last)) in
      omega (arith, inside, last, whole)

  branch_made : MadeNode (branch_item node_below) (IsBranchStep (λ k. (place_below k).place))
  branch_made = branch_of (λ k. (place_below k).place) node_below (λ k. (place_below k).is) (λ k. (place_below k).same) branch_sized

  below_value : (r : Item) (k : ℕ) (rest : List ℕ) (qs : List Pair) → below k all ≡ qs → k < 16 → AreNibbles rest
      → ((b : List ℕ) → Contains (inner_named turns qs) b → Known b) → StandsFor Known r (encoding (branch_item node_below))
      → AreShort turns qs → are_prefix_free qs ≡ true
      → HasValue Known r (k ∷ rest) (value_at rest qs)
  below_value r k rest [] is small are known stands s f =
      ends_here r (encoding (branch_item node_below)) (k ∷ rest) branch_made.node None stands branch_made.are
      (branch_made.told (k ∷ rest) small ∙ (place_below k).says rest ∙ ap (λ qs. said qs (ref_below k) rest) is)
  below_value r k rest (c ∷ qs) is small are known stands s f =
      let x = node turns (c ∷ qs) in
      let says : step branch_made.node (k ∷ rest) ≡ goes (reference x) rest =
      branch_made.told (k ∷ rest) small ∙ (place_below k).says rest ∙ ap (λ qs. said qs (ref_below k) rest) is ∙ ap (λ qs. goes (reference (node turns qs)) rest) is in
      leads_on r (reference x) (encoding (branch_item node_below)) (k ∷ rest) rest branch_made.node (value_at rest (c ∷ qs)) stands branch_made.are says
      (inner (c ∷ qs) s f (λ b held. known b (Contains-append_right (if_named x) (named turns (c ∷ qs)) b held)) (reference x)
      (child_stands Known x (node_list turns c qs s) (λ b held. known b (Contains-append_left (if_named x) (named turns (c ∷ qs)) b held))) rest are)

  branch_value_of : ((b : List ℕ) → Contains (named_in (inner_named turns) all []) b → Known b) → (r : Item)
      → StandsFor Known r (encoding (branch_item node_below)) → (path : List ℕ) → AreNibbles path → HasValue Known r path (value_at path all)
  branch_value_of known r stands [] are =
      ends_here r (encoding (branch_item node_below)) [] branch_made.node (value_at [] all) stands branch_made.are
      (branch_made.told [] ∙ ap ends (sym (none_empty p q ps free)))
  branch_value_of known r stands (k ∷ rest) are =
      let small : k < 16 = All-head (λ n. n < 16) k rest are in
      subst (HasValue Known r (k ∷ rest)) (sym (value_below k rest all))
      (below_value r k rest (below k all) refl small (All-tail (λ n. n < 16) k rest are)
      (λ b held. known b (joined_holds (λ k. inner_named turns (below k all)) 16 0 k b small
      (subst (λ i. Contains (inner_named turns (below i all)) b) (let same : k ≡ 0 + k = omega arith in same) held)))
      stands (short_below (suc turns) turns k all (omega arith) short) (free_below k all free))

  -- ---- an extension

  module _ (k : ℕ) (x : List ℕ) (begin : AllBegin (k ∷ x) all) (bound : length (k ∷ x) < suc turns) (nibbles : AreNibbles (k ∷ x)) where
    abbrev own : List ℕ
    own = k ∷ x

    abbrev child_node : Item
    child_node = node turns (below_all own all)

    inner_short : AreShort turns (below_all own all)
    inner_short = short_below_all turns x (below k all) (short_below (suc turns) turns k all (omega arith) short)

    child_is : is_list child_node ≡ true
    child_is =
        let (c, qs, is) = some_below_all own p (q ∷ ps) begin in
        subst (λ qs. is_list (node turns qs) ≡ true) (sym is) (node_list turns c qs (subst (AreShort turns) is inner_short))

    extension_sized : length (encoding (extension_item own child_node)) < 2 ^ 64
    extension_sized =
        let prefix = hex_prefix_length false own in
        let first = string_length (hex_prefix false own) (omega (arith, prefix)) in
        let second = reference_length child_node in
        let lengths = length-append (encoding (string (hex_prefix false own))) (encoding (reference child_node) ++ []) in
        let more = length-append (encoding (reference child_node)) [] in
        let whole = list_length (string (hex_prefix false own) ∷ reference child_node ∷ []) (omega (arith, prefix, first, second, lengths, more)) in
        omega (arith, prefix, first, second, lengths, more, whole)

    extension_made : MadeNode (extension_item own child_node) (λ path s. s ≡ extension_step own (reference child_node) path)
    extension_made = made_extension own child_node nibbles (λ none. let no : ⊥ = cc in no) (omega arith) child_is extension_sized

    by_start : ((b : List ℕ) → Contains (inner_named turns (below_all own all)) b → Known b) → (r : Item)
        → StandsFor Known r (encoding (extension_item own child_node)) → (path : List ℕ) → AreNibbles path → (t : Bool) → starts_with nat_eq path own ≡ t
        → HasValue Known r path (if t then value_at (drop (length own) path) (below_all own all) else None)
    by_start known r stands path are false begins =
        ends_here r (encoding (extension_item own child_node)) path extension_made.node None stands extension_made.are
        (extension_made.told path ∙ ap (λ t. if t then goes (reference child_node) (drop (length own) path) else ends None) begins)
    by_start known r stands path are true begins =
        leads_on r (reference child_node) (encoding (extension_item own child_node)) path (drop (length own) path) extension_made.node
        (value_at (drop (length own) path) (below_all own all)) stands extension_made.are
        (extension_made.told path ∙ ap (λ t. if t then goes (reference child_node) (drop (length own) path) else ends None) begins)
        (inner (below_all own all) inner_short (free_below_all own all free)
        (λ b held. known b (Contains-append_right (if_named child_node) (named turns (below_all own all)) b held)) (reference child_node)
        (child_stands Known child_node child_is (λ b held. known b (Contains-append_left (if_named child_node) (named turns (below_all own all)) b held)))
        (drop (length own) path) (All-drop (λ n. n < 16) (length own) path are))

    extension_value_of : ((b : List ℕ) → Contains (named_in (inner_named turns) all own) b → Known b) → (r : Item)
        → StandsFor Known r (encoding (extension_item own child_node)) → (path : List ℕ) → AreNibbles path → HasValue Known r path (value_at path all)
    extension_value_of known r stands path are =
        subst (HasValue Known r path) (sym (value_below_all own path all begin))
        (by_start known r stands path are (starts_with nat_eq path own) refl)

  -- ---- either

  parent_values : (own : List ℕ) → AllBegin own all → length own < suc turns → AreNibbles own
      → ((b : List ℕ) → Contains (named_in (inner_named turns) all own) b → Known b) → (r : Item)
      → StandsFor Known r (encoding (parent (node turns) all own)) → (path : List ℕ) → AreNibbles path → HasValue Known r path (value_at path all)
  parent_values [] begin bound nibbles known r stands path are = branch_value_of known r stands path are
  parent_values (k ∷ x) begin bound nibbles known r stands path are = extension_value_of k x begin bound nibbles known r stands path are

-- ---- all nodes

pub has_values : (Known : List ℕ → Type 0) (turns : ℕ) (ps : List Pair) → turns < 2 ^ 60 → HasValues Known turns ps
unfolding node named
has_values Known zero [] few short free known r stands path are =
    ends_here r (encoding (string [])) path made_empty.node None stands made_empty.are (made_empty.told path)
has_values Known zero (p ∷ ps) few (s, rest) free known r stands path are = absurd (omega (arith, s.path))
has_values Known (suc turns) [] few short free known r stands path are =
    ends_here r (encoding (string [])) path made_empty.node None stands made_empty.are (made_empty.told path)
has_values Known (suc turns) (p ∷ []) few (s, rest) free known r stands path are =
    let prefix = hex_prefix_length true p.0 in
    let first = string_length (hex_prefix true p.0) (omega (arith, prefix, s.path)) in
    let second = string_length p.1 (omega (arith, s.value)) in
    let lengths = length-append (encoding (string (hex_prefix true p.0))) (encoding (string p.1) ++ []) in
    let more = length-append (encoding (string p.1)) [] in
    let whole = list_length (string (hex_prefix true p.0) ∷ string p.1 ∷ []) (omega (arith, prefix, first, second, lengths, more, s.path, s.value)) in
    let l = made_leaf p.0 p.1 s.are (omega (arith, s.path)) (omega (arith, s.value)) (omega (arith, prefix, first, second, lengths, more, whole, s.path, s.value)) in
    ends_here r (encoding (leaf_item p.0 p.1)) path l.node (value_at path (p ∷ [])) stands l.are (l.told path)
has_values Known (suc turns) (p ∷ q ∷ ps) few short free known r stands path are =
    let most = shared_length p.0 (q ∷ ps) in
    parent_values Known turns (omega arith) p q ps short free (λ qs. has_values Known turns qs (omega arith)) (shared p.0 (q ∷ ps))
    (shared_is p (q ∷ ps)) (omega (arith, most, short.0.path)) (shared_nibbles p.0 (q ∷ ps) short.0.are) known r stands path are
