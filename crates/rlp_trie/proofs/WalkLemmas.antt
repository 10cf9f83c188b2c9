-- The walk over the nodes of a proof ends in one way, and what it finds is what the trie has.
use Rattle.std.proofs.Common.{ℕ, ⊎_elim, ◌<◌, ◌^◌, ◌∙◌, ◌∷◌, ◌≡◌, ◌⊎◌, Bool, Err, IfOk, List, Ok, Option, Result, [], ap, arith, false, if◌then◌else◌, inl, inr, length, map, refl, subst, sym, true}
use Rattle.std.proofs.{lemmas.List.Elements.Contains-append_right, lemmas.Slice.Eq.bytes_eq-Decides}
use Rattle.std.specs.{Global.Vec, Prelude.{Contains, option_map}, Str.bytes_eq, Vec.vec_items}
use Rattle.rlp_reading.proofs.{Lemmas.Items.{encoding_same}, Corollaries.{not_both}, RawLaws.{string_kind}}
use Rattle.rlp.specs.{DecoderError.DecoderError, Form.Faults, Format.Encoding.{Item, encoding, list, string}, Format.Framing.begins_as_list}
use Rattle.rlp.specs.{Values.RawItem.raw_item_of, Views.View.strict_view_of}
use Rattle.rlp_records.specs.Keccak.{keccak256}
use Rattle.rlp_trie.proofs.StepLemmas.{same_step, step_rest}
use Rattle.rlp_trie.specs.{Child.child_item, EmptyStringLaws.empty_string, HexPrefix.AreNibbles, declared.trie_node.TrieNode.{TrieNode}}
use Rattle.rlp_trie.specs.{Lookup.{Encodes, HasValue, StandsFor, by_hash, ends, ends_here, goes, in_parent, leads_on, step}, Next.{Agrees, IsEnd, read_fault}}
use Rattle.rlp_trie.specs.ProofWalk.{IsKnown, IsNoNode, IsSameKind, IsUnread, TakesNode, Walk, ends_at_last, ends_early, next_node, next_unread, no_next, stops, unless_repeated, unread, walks_on}
use Rattle.rlp_trie.specs.{TrieNode.node_item, TrieNodeLaws.trie_node, declared.child.Child.Child, declared.inline_node.InlineNode.InlineNode}
use Rattle.rlp_trie.specs.{declared.proof.ProofFault.{ProofFault}, declared.proof.ProofFault.TheVariants.{FaultyNode, MissingNode, NodesLeft, OtherHash, OutOfMemory}}
use Rattle.rlp.specs.DecoderError.TheVariants as decoder
use Rattle.rlp_trie.specs.declared.child.Child.TheVariants as child

-- how a walk ends
abbrev pub Outcome : Type 0
Outcome = Result (Option (List ℕ)) ProofFault

-- the next encoding and the nodes that are left, or why there is none
abbrev Pair : Type 0
Pair = List ℕ × List (List ℕ)

abbrev Taken : Type 0
Taken = Result Pair ProofFault

one_pair : (x y : Pair) → ◌≡◌ {A = Taken} (Ok x) (Ok y) → x ≡ y
one_pair x y same = cc

one_ok : (r : Taken) (b c : List ℕ) (xs ys : List (List ℕ)) → r ≡ Ok (b, xs) → r ≡ Ok (c, ys) → (b ≡ c) × (xs ≡ ys)
one_ok r b c xs ys one other =
    let pairs = one_pair (b, xs) (c, ys) (sym one ∙ other) in (ap (λ (p : Pair). p.0) pairs, ap (λ (p : Pair). p.1) pairs)

one_err : (r : Taken) (e f : ProofFault) → r ≡ Err e → r ≡ Err f → e ≡ f
one_err r e f one other = cc

ok_or_err : (r : Taken) (x : List ℕ × List (List ℕ)) (e : ProofFault) → r ≡ Ok x → r ≡ Err e → ⊥
ok_or_err r x e one other = cc

abbrev taken_if : Bool → List ℕ → List (List ℕ) → ProofFault → Taken
taken_if t b left e = if t then Ok (b, left) else Err e

-- ---- the next node

next_kept : (x : Item) (b : List ℕ) (nodes : List (List ℕ)) → length b < 2 ^ 64 → begins_as_list b ≡ true → encoding x ≡ b
    → next_node x nodes ≡ Ok (b, unless_repeated b nodes)
next_kept (string d) b nodes fits kind same = let other = string_kind b d fits (sym same) in cc
next_kept (list xs) b nodes fits kind same = ap (λ (c : List ℕ). Ok (c, unless_repeated c nodes)) same

-- a node that is kept in its parent is its own encoding
pub inline_next : (c : Child) (inline : InlineNode) (b : List ℕ) (nodes : List (List ℕ)) → c ≡ child.Inline inline → b ≡ inline.item
    → encoding (raw_item_of inline.item) ≡ inline.item → next_node (child_item c) nodes ≡ Ok (b, unless_repeated b nodes)
inline_next c inline b nodes is same written =
    ap (λ (c : Child). next_node (child_item c) nodes) is
    ∙ next_kept (raw_item_of inline.item) inline.item nodes (let fits : length inline.item < 2 ^ 64 = omega (arith, inline.is_short) in fits) inline.is_list written
    ∙ ap (λ (c : List ℕ). Ok (c, unless_repeated c nodes)) (sym same)

-- with no node left, only the hash of the empty trie stands for one
pub no_next_of : (h : List ℕ) (nodes : List (Vec ℕ)) → length nodes < 1 → bytes_eq h (keccak256 (0x80 ∷ [])) ≡ false
    → next_node (string h) (map vec_items nodes) ≡ Err MissingNode
no_next_of h [] few other = grind (arith, empty_string)
no_next_of h (v ∷ more) few other = absurd (omega (arith, few))

pub empty_next : (h : List ℕ) (nodes : List (Vec ℕ)) → length nodes < 1 → bytes_eq h (keccak256 (0x80 ∷ [])) ≡ true
    → next_node (string h) (map vec_items nodes) ≡ Ok (0x80 ∷ [], map vec_items nodes)
empty_next h [] few is = grind (arith, empty_string)
empty_next h (v ∷ more) few is = absurd (omega (arith, few))

-- why the next encoding isn't that of a node
pub read_fails : (reference : Item) (nodes left : List (List ℕ)) (b : List ℕ) (e : ProofFault) → next_node reference nodes ≡ Ok (b, left)
    → IsUnread b e ⊎ (e ≡ OutOfMemory) → IsNoNode reference nodes e ⊎ (e ≡ OutOfMemory)
read_fails reference nodes left b e next (inl bad) = inl (next_unread b left next bad)
read_fails reference nodes left b e next (inr lacks) = inr lacks

-- why bytes weren't read as a node, by the fault of reading them
pub unread_as : {T : Type 0} (b : List ℕ) (d : DecoderError) (e : ProofFault) → e ≡ read_fault d
    → Faults trie_node.reading (strict_view_of b) d ⊎ ((d ≡ decoder.OutOfMemory) × T)
    → IsUnread b e ⊎ (e ≡ OutOfMemory)
unread_as b decoder.OutOfMemory e is why = inr is
unread_as b d e is (inl bad) = inl (subst (λ e. IsUnread b e) (sym is) (unread d bad))
unread_as b d e is (inr (lacks, may)) = absurd (let no : ⊥ = cc in no)

-- ---- one way to end

-- the encoding of a node has no fault
faultless : (b : List ℕ) (n : TrieNode) (e : ProofFault) → Encodes b n → ¬ IsUnread b e
faultless b n e are (unread d bad) =
    not_both trie_node.reading (strict_view_of b) n d ((trie_node.reads_strictly.back true).back b n are.sized are.fits are.is) bad

-- nodes of one encoding say the same of a path
pub one_step : (b : List ℕ) (n m : TrieNode) (path : List ℕ) → Encodes b n → Encodes b m → AreNibbles path → step n path ≡ step m path
one_step b n m path one other are =
    let same : encoding (node_item n) ≡ encoding (node_item m) = sym one.is ∙ other.is in
    let sized : length (encoding (node_item n)) < 2 ^ 64 = subst (λ c. length c < 2 ^ 64) one.is one.sized in
    same_step n m path one.fits other.fits are
    (encoding_same (node_item n) (node_item m) sized (subst (λ c. length c < 2 ^ 64) same sized) same)

not_none : (nodes left : List (List ℕ)) (reference : Item) (n : TrieNode) (e : ProofFault) → TakesNode reference nodes n left → ¬ IsNoNode reference nodes e
not_none nodes left reference n e taken (no_next none) = ok_or_err _ _ _ taken.next none
not_none nodes left reference n e taken (next_unread b others is bad) =
    faultless b n e (subst (λ c. Encodes c n) (one_ok _ taken.bytes b left others taken.next is).0 taken.are) bad

module _ (nodes left : List (List ℕ)) (reference : Item) (path : List ℕ) (n : TrieNode) (taken : TakesNode reference nodes n left) (are : AreNibbles path) where
  same_left : (m : TrieNode) (others : List (List ℕ)) → TakesNode reference nodes m others → left ≡ others
  same_left m others other = (one_ok _ taken.bytes other.bytes left others taken.next other.next).1

  same_said : (m : TrieNode) (others : List (List ℕ)) → TakesNode reference nodes m others → step n path ≡ step m path
  same_said m others other =
      one_step other.bytes n m path
      (subst (λ c. Encodes c n) (one_ok _ taken.bytes other.bytes left others taken.next other.next).0 taken.are) other.are are

  -- the walk goes on where the node leads
  pub walk_after : (next : Item) (rest : List ℕ) (outcome : Outcome) → step n path ≡ goes next rest → Walk nodes reference path outcome
      → Walk left next rest outcome
  walk_after next rest outcome says (stops _ _ _ e none) = absurd (not_none nodes left reference n e taken none)
  walk_after next rest outcome says (ends_at_last _ _ _ m value other last) = let same = same_said m [] other in absurd (let no : ⊥ = cc in no)
  walk_after next rest outcome says (ends_early _ others _ b _ m value other last) =
      let same = same_said m (b ∷ others) other in absurd (let no : ⊥ = cc in no)
  walk_after next rest outcome says (walks_on _ others _ below _ more m _ other goes_on walk) =
      let same = same_said m others other in
      let references : below ≡ next = cc in
      let paths : more ≡ rest = cc in
      subst (λ x. Walk left x rest outcome) references
      (subst (λ p. Walk left below p outcome) paths (subst (λ xs. Walk xs below more outcome) (sym (same_left m others other)) walk))

  -- at a node that has the answer the walk ends, with that if no node is left
  pub walk_ended : (value : Option (List ℕ)) (outcome : Outcome) → step n path ≡ ends value → Walk nodes reference path outcome
      → ((left ≡ []) × (outcome ≡ Ok value)) ⊎ ((0 < length left) × (outcome ≡ Err NodesLeft))
  walk_ended value outcome says (stops _ _ _ e none) = absurd (not_none nodes left reference n e taken none)
  walk_ended value outcome says (ends_at_last _ _ _ m found other last) =
      let same = same_said m [] other in
      let values : found ≡ value = cc in
      inl (same_left m [] other, ap Ok values)
  walk_ended value outcome says (ends_early _ others _ b _ m found other last) =
      let lefts = same_left m (b ∷ others) other in inr (omega (arith, ap length lefts), refl)
  walk_ended value outcome says (walks_on _ others _ below _ more m _ other goes_on walk) =
      let same = same_said m others other in absurd (let no : ⊥ = cc in no)

same_kind : (e : ProofFault) → IsSameKind e e
same_kind (FaultyNode d) = tt
same_kind e = refl

-- why there is no node is of one kind
one_kind : (nodes : List (List ℕ)) (reference : Item) (e f : ProofFault) → IsNoNode reference nodes e → IsNoNode reference nodes f → IsSameKind e f
one_kind nodes reference e f (no_next none) (no_next other) = subst (λ g. IsSameKind e g) (one_err _ e f none other) (same_kind e)
one_kind nodes reference e f (no_next none) (next_unread b left next bad) = absurd (ok_or_err _ _ _ next none)
one_kind nodes reference e f (next_unread b left next bad) (no_next none) = absurd (ok_or_err _ _ _ next none)
one_kind nodes reference e f (next_unread b left next (unread d bad)) (next_unread c others other (unread g worse)) = tt

-- without a node the walk stops, by a fault of one kind
walk_stopped : (nodes : List (List ℕ)) (reference : Item) (path : List ℕ) (e : ProofFault) (outcome : Outcome) → IsNoNode reference nodes e
    → Walk nodes reference path outcome → (f : ProofFault) × (outcome ≡ Err f) × IsSameKind e f
walk_stopped nodes reference path e outcome none (stops _ _ _ f other) = (f, refl, one_kind nodes reference e f none other)
walk_stopped nodes reference path e outcome none (ends_at_last _ _ _ m found other last) = absurd (not_none nodes [] reference m e other none)
walk_stopped nodes reference path e outcome none (ends_early _ others _ b _ m found other last) =
    absurd (not_none nodes (b ∷ others) reference m e other none)
walk_stopped nodes reference path e outcome none (walks_on _ others _ below _ more m _ other goes_on walk) =
    absurd (not_none nodes others reference m e other none)

-- ---- on the way

-- from a reference, a path and the nodes that are left, the walk ends as the whole one does
pub record IsOnWay (all : List (List ℕ)) (top : Item) (whole : List ℕ) (nodes : List (List ℕ)) (reference : Item) (path : List ℕ) : Type 0 where
  pub are : AreNibbles path
  pub onward : (outcome : Outcome) → Walk nodes reference path outcome → Walk all top whole outcome
  pub backward : (outcome : Outcome) → Walk all top whole outcome → Walk nodes reference path outcome

pub at_first : (nodes : List (List ℕ)) (reference : Item) (path : List ℕ) → AreNibbles path → IsOnWay nodes reference path nodes reference path
at_first nodes reference path are = record { are = are; onward = λ outcome walk. walk; backward = λ outcome walk. walk }

lacks_agree : (e : ProofFault) (outcome : Outcome) → e ≡ OutOfMemory → Agrees (Err e) outcome
lacks_agree e (Ok value) lacks = lacks
lacks_agree e (Err f) lacks = inr lacks

value_agrees : (value : Option (Vec ℕ)) (outcome : Outcome) → outcome ≡ Ok (option_map vec_items value) → Agrees (Ok value) outcome
value_agrees value (Ok wanted) same = let values : option_map vec_items value ≡ wanted = cc in values
value_agrees value (Err f) same = let no : ⊥ = cc in no

fault_agrees : (e f : ProofFault) (outcome : Outcome) → outcome ≡ Err f → IsSameKind e f → Agrees (Err e) outcome
fault_agrees e f (Ok wanted) is kind = absurd (let no : ⊥ = cc in no)
fault_agrees e f (Err g) is kind = let same : f ≡ g = cc in inl (subst (λ g. IsSameKind e g) same kind)

module _ (all : List (List ℕ)) (top : Item) (whole : List ℕ) (nodes : List (List ℕ)) (reference : Item) (path : List ℕ)
    (way : IsOnWay all top whole nodes reference path) where
  -- the node leads on
  pub on_way : (left : List (List ℕ)) (n : TrieNode) (next : Item) (rest : List ℕ) → TakesNode reference nodes n left → step n path ≡ goes next rest
      → IsOnWay all top whole left next rest × (length rest < length path)
  on_way left n next rest taken says =
      let (are, shorter) = step_rest n path rest next says way.are in (
        record {
          are = are;
          onward = λ outcome walk. way.onward outcome (walks_on nodes left reference next path rest n outcome taken says walk);
          backward = λ outcome walk. walk_after nodes left reference path n taken way.are next rest outcome says (way.backward outcome walk);
        },
        shorter,
      )

  -- the node has the answer, and no node is left
  pub value_ends : (left : List (List ℕ)) (n : TrieNode) (value : Option (Vec ℕ)) → TakesNode reference nodes n left
      → step n path ≡ ends (option_map vec_items value) → length left ≡ 0 → IsEnd all top whole (Ok value)
  value_ends [] n value taken says none =
      way.onward (Ok (option_map vec_items value)) (ends_at_last nodes reference path n (option_map vec_items value) taken says)
  value_ends (b ∷ left) n value taken says none = absurd (omega (arith, none))

  pub value_only : (left : List (List ℕ)) (n : TrieNode) (value : Option (Vec ℕ)) → TakesNode reference nodes n left
      → step n path ≡ ends (option_map vec_items value) → length left ≡ 0 → (outcome : Outcome) → Walk all top whole outcome
      → Agrees (Ok value) outcome
  value_only left n value taken says none outcome walk =
      ⊎_elim
      (λ (last, is). value_agrees value outcome is)
      (λ (some, is). absurd (omega (arith, none, some)))
      (walk_ended nodes left reference path n taken way.are (option_map vec_items value) outcome says (way.backward outcome walk))

  -- the node has the answer, and nodes are left
  pub early_ends : (left : List (List ℕ)) (n : TrieNode) (value : Option (List ℕ)) → TakesNode reference nodes n left → step n path ≡ ends value
      → ¬ (length left ≡ 0) → IsEnd all top whole (Err NodesLeft)
  early_ends [] n value taken says some = absurd (some refl)
  early_ends (b ∷ left) n value taken says some = inl (way.onward (Err NodesLeft) (ends_early nodes left reference b path n value taken says))

  pub early_only : (left : List (List ℕ)) (n : TrieNode) (value : Option (List ℕ)) → TakesNode reference nodes n left → step n path ≡ ends value
      → ¬ (length left ≡ 0) → (outcome : Outcome) → Walk all top whole outcome → Agrees (Err NodesLeft) outcome
  early_only left n value taken says some outcome walk =
      ⊎_elim
      (λ (last, is). absurd (some (ap length last)))
      (λ (more, is). fault_agrees NodesLeft NodesLeft outcome is refl)
      (walk_ended nodes left reference path n taken way.are value outcome says (way.backward outcome walk))

  -- there is no node
  pub fault_ends : (e : ProofFault) → IsNoNode reference nodes e ⊎ (e ≡ OutOfMemory) → IsEnd all top whole (Err e)
  fault_ends e (inl none) = inl (way.onward (Err e) (stops nodes reference path e none))
  fault_ends e (inr lacks) = inr lacks

  pub fault_only : (e : ProofFault) → IsNoNode reference nodes e ⊎ (e ≡ OutOfMemory) → (outcome : Outcome) → Walk all top whole outcome
      → Agrees (Err e) outcome
  fault_only e (inl none) outcome walk =
      let (f, is, kind) = walk_stopped nodes reference path e outcome none (way.backward outcome walk) in fault_agrees e f outcome is kind
  fault_only e (inr lacks) outcome walk = lacks_agree e outcome lacks

-- ---- what is found is what the trie has

-- each of the nodes that are left is one of all
abbrev AreAmong : List (List ℕ) → List (List ℕ) → Type 0
AreAmong nodes all = (b : List ℕ) → Contains nodes b → Contains all b

named_stands : (all left others : List (List ℕ)) (h b c : List ℕ) (e : ProofFault) (t : Bool) → IsKnown all c → bytes_eq h (keccak256 c) ≡ t
    → taken_if t c others e ≡ Ok (b, left) → StandsFor (IsKnown all) (string h) b × (others ≡ left)
named_stands all left others h b c e false known tested is = absurd (let no : ⊥ = cc in no)
named_stands all left others h b c e true known tested is =
    let (same, lefts) = one_ok (Ok (c, others)) c b others left refl is in
    (subst (λ d. StandsFor (IsKnown all) (string h) d) same (by_hash h c known ((bytes_eq-Decides h (keccak256 c)).0 tested)), lefts)

among_left : (all nodes : List (List ℕ)) (kept : List ℕ) → AreAmong nodes all → AreAmong (unless_repeated kept nodes) all
among_left all [] kept among = among
among_left all (c ∷ more) kept among = by (bytes_eq c kept)
  where
    by : (t : Bool) → AreAmong (if t then more else c ∷ more) all
    by true = λ x held. among x (Contains-append_right (c ∷ []) more x held)
    by false = among

next_stands : (all nodes left : List (List ℕ)) (reference : Item) (b : List ℕ) → AreAmong nodes all → next_node reference nodes ≡ Ok (b, left)
    → StandsFor (IsKnown all) reference b × AreAmong left all
next_stands all nodes left (list xs) b among is =
    let kept = encoding (list xs) in
    let (same, lefts) = one_ok (Ok (kept, unless_repeated kept nodes)) kept b (unless_repeated kept nodes) left refl is in
    (subst (λ c. StandsFor (IsKnown all) (list xs) c) same (in_parent xs), subst (λ xs. AreAmong xs all) lefts (among_left all nodes kept among))
next_stands all [] left (string h) b among is =
    let (stands, lefts) =
    named_stands all left [] h b (encoding (string [])) MissingNode (bytes_eq h (keccak256 (encoding (string [])))) (inr refl) refl is in
    (stands, subst (λ xs. AreAmong xs all) lefts among)
next_stands all (c ∷ more) left (string h) b among is =
    let known : Contains all c = among c (0, omega arith, refl) in
    let (stands, lefts) = named_stands all left more h b c OtherHash (bytes_eq h (keccak256 c)) (inl known) refl is in
    (stands, subst (λ xs. AreAmong xs all) lefts (λ x held. among x (Contains-append_right (c ∷ []) more x held)))

-- the value that a walk ends with is that of the path
value_of_walk : (all nodes : List (List ℕ)) (reference : Item) (path : List ℕ) (value : Option (List ℕ)) → AreAmong nodes all
    → Walk nodes reference path (Ok value) → HasValue (IsKnown all) reference path value
value_of_walk all nodes reference path value among (ends_at_last _ _ _ n _ taken says) =
    ends_here reference taken.bytes path n value (next_stands all nodes [] reference taken.bytes among taken.next).0 taken.are says
value_of_walk all nodes reference path value among (walks_on _ left _ next _ rest n _ taken says walk) =
    let (stands, others) = next_stands all nodes left reference taken.bytes among taken.next in
    leads_on reference next taken.bytes path rest n value stands taken.are says (value_of_walk all left next rest value others walk)

pub end_proves : (all : List (List ℕ)) (reference : Item) (path : List ℕ) (r : Result (Option (Vec ℕ)) ProofFault) → IsEnd all reference path r
    → IfOk r (λ value. HasValue (IsKnown all) reference path (option_map vec_items value))
end_proves all reference path (Ok value) walk = value_of_walk all all reference path (option_map vec_items value) (λ b held. held) walk
end_proves all reference path (Err e) walk = tt
