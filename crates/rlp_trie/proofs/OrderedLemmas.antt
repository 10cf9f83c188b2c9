-- The trie of a list has the values of the list, and its root tells the list.
use Rattle.std.proofs.Common.{◌≡◌, ◌^◌, ◌<◌, ◌≤◌, ◌+◌, ◌∙◌, ◌⊎◌, ⊎_elim, inl, inr, ap, ℕ, suc, List, [], ◌∷◌, length, refl, sym, subst, arith, Option, Some, Result, Ok, Err, IfOk}
use Rattle.std.proofs.lemmas.{Bool.cond-true, List.Elements.{Contains-append_right}, Slice.Eq.bytes_eq-Decides}
use Rattle.std.specs.{Global.Vec, List.slice_get, Prelude.{Contains, option_map}, Str.bytes_eq, Vec.vec_items}
use Rattle.rlp.specs.{Format.Encoding.{Item, encoding, string}, Values.Value.number_item}
use Rattle.rlp_records.specs.Keccak.{keccak256}
use Rattle.rlp_trie.specs.{HexPrefix.{AreNibbles, nibbles_of}, Listed.{AreListed, HasCollision, known_of}, Lookup.{Encodes, HasValue, StandsFor, by_hash, ends_here, in_parent, leads_on}, declared.proof.ProofFault.ProofFault, declared.trie_node.TrieNode.TrieNode}
use Rattle.rlp_trie.specs.Ordered.{named, ordered_node, ordered_nodes, ordered_root, pairs_from, place_path, value_at}
use Rattle.rlp_trie.specs.ProofWalk.{IsKnown, ProofGives, TakesNode, TellApart, Walk, ends_at_last, next_node, walks_on}
use Rattle.rlp_trie.proofs.{Collisions.known_tell, Keys.{free_from, key, key_bytes, short_from, value_from}, NodeValues.has_values, OneValue.one_value, PathLemmas.nibbles_are}

path_are : (i : ℕ) → i < 2 ^ 64 → AreNibbles (place_path i)
path_are i small = nibbles_are (key i) (key_bytes i small)

pub list_has : (xs : List (List ℕ)) (i : ℕ) → AreListed 0 xs → i < 2 ^ 64
    → HasValue (IsKnown (ordered_nodes xs)) (string (ordered_root xs)) (place_path i) (slice_get xs i)
list_has xs i are small =
    let root = encoding (ordered_node xs) in
    let held : Contains (ordered_nodes xs) root = (0, omega arith, refl) in
    let same : value_at (place_path i) (pairs_from 0 xs) ≡ slice_get xs i =
    ap (λ j. value_at (place_path j) (pairs_from 0 xs)) (let e : i ≡ 0 + i = omega arith in e) ∙ value_from 0 i xs are.places (omega arith) in
    subst (HasValue (IsKnown (ordered_nodes xs)) (string (ordered_root xs)) (place_path i)) same
    (has_values (IsKnown (ordered_nodes xs)) 19 (pairs_from 0 xs) (omega arith) (short_from 0 xs are) (free_from 0 xs are.places)
    (λ b inside. inl (Contains-append_right (root ∷ []) (named 19 (pairs_from 0 xs)) b inside))
    (string (ordered_root xs)) (by_hash (ordered_root xs) root (inl held) refl) (place_path i) (path_are i small))

-- ---- lists with one root

lists_same : (n : ℕ) (xs ys : List (List ℕ)) → n + length xs ≤ 2 ^ 64 → n + length ys ≤ 2 ^ 64
    → ((i : ℕ) → n + i < 2 ^ 64 → slice_get xs i ≡ slice_get ys i) → xs ≡ ys
lists_same n [] [] fits also same = refl
lists_same n [] (y ∷ ys) fits also same = let first = same 0 (omega arith) in absurd (let no : ⊥ = cc in no)
lists_same n (x ∷ xs) [] fits also same = let first = same 0 (omega arith) in absurd (let no : ⊥ = cc in no)
lists_same n (x ∷ xs) (y ∷ ys) fits also same =
    let one : Some x ≡ Some y = same 0 (omega arith) in
    let first : x ≡ y = cc in
    let rest = lists_same (suc n) xs ys (omega arith) (omega arith) (λ i small. same (suc i) (omega (arith, small))) in
    cc

pub lists_told : (xs ys : List (List ℕ)) → AreListed 0 xs → AreListed 0 ys → TellApart (IsKnown (ordered_nodes xs)) (IsKnown (ordered_nodes ys))
    → ordered_root xs ≡ ordered_root ys → xs ≡ ys
lists_told xs ys are also apart same =
    lists_same 0 xs ys are.places also.places (λ i small.
    let low : i < 2 ^ 64 = omega (arith, small) in
    one_value (ordered_nodes xs) (ordered_nodes ys) apart (string (ordered_root xs)) (place_path i) (path_are i low) (slice_get xs i) (slice_get ys i)
    (list_has xs i are low)
    (subst (λ r. HasValue (IsKnown (ordered_nodes ys)) (string r) (place_path i) (slice_get ys i)) (sym same) (list_has ys i also low)))

-- ---- or a collision

pub paths_agree : (nodes others : List (List ℕ)) (reference : Item) (path : List ℕ) (value other : Option (List ℕ)) → AreNibbles path
    → HasValue (IsKnown nodes) reference path value → HasValue (IsKnown others) reference path other
    → (value ≡ other) ⊎ HasCollision (known_of nodes) (known_of others)
paths_agree nodes others reference path value other are has also =
    ⊎_elim (λ (apart : TellApart (IsKnown nodes) (IsKnown others)). inl (one_value nodes others apart reference path are value other has also))
    (λ (found : HasCollision (known_of nodes) (known_of others)). inr found) (known_tell nodes others)

pub lists_agree : (xs ys : List (List ℕ)) → AreListed 0 xs → AreListed 0 ys → ordered_root xs ≡ ordered_root ys
    → (xs ≡ ys) ⊎ HasCollision (known_of (ordered_nodes xs)) (known_of (ordered_nodes ys))
lists_agree xs ys are also same =
    ⊎_elim (λ (apart : TellApart (IsKnown (ordered_nodes xs)) (IsKnown (ordered_nodes ys))). inl (lists_told xs ys are also apart same))
    (λ (found : HasCollision (known_of (ordered_nodes xs)) (known_of (ordered_nodes ys))). inr found) (known_tell (ordered_nodes xs) (ordered_nodes ys))

pub proofs_tell : (nodes xs : List (List ℕ)) (i : ℕ) (value : Option (List ℕ)) → AreListed 0 xs → i < 2 ^ 64
    → HasValue (IsKnown nodes) (string (ordered_root xs)) (place_path i) value
    → (value ≡ slice_get xs i) ⊎ HasCollision (known_of nodes) (known_of (ordered_nodes xs))
proofs_tell nodes xs i value are small has =
    paths_agree nodes (ordered_nodes xs) (string (ordered_root xs)) (place_path i) value (slice_get xs i) (path_are i small) has (list_has xs i are small)

-- ---- proofs

next_is : (h b : List ℕ) (left : List (List ℕ)) → h ≡ keccak256 b → next_node (string h) (b ∷ left) ≡ Ok (b, left)
next_is h b left is = cond-true (bytes_eq h (keccak256 b)) _ _ ((bytes_eq-Decides h (keccak256 b)).1 is)

-- nodes that begin with the encoding of the node of a reference
takes_next : (Known : List ℕ → Type 0) (r : Item) (b : List ℕ) (n : TrieNode) (left : List (List ℕ)) → StandsFor Known r b → Encodes b n
    → (nodes : List (List ℕ)) × TakesNode r nodes n left
takes_next Known r b n left (by_hash h _ known is) are = (b ∷ left, record { bytes = b; next = next_is h b left is; are = are })
takes_next Known r b n left (in_parent xs) are =
    (b ∷ left, record { bytes = b; next = ap (λ nodes. Ok (b, nodes)) (cond-true (bytes_eq b b) _ _ ((bytes_eq-Decides b b).1 refl)); are = are })

-- nodes that prove a value, if the trie has it
proof_for : (Known : List ℕ → Type 0) (r : Item) (path : List ℕ) (value : Option (List ℕ)) → HasValue Known r path value
    → (nodes : List (List ℕ)) × Walk nodes r path (Ok value)
proof_for Known r path value (ends_here _ b _ n _ stands are says) =
    let (nodes, takes) = takes_next Known r b n [] stands are in (nodes, ends_at_last nodes r path n value takes says)
proof_for Known r path value (leads_on _ next b _ rest n _ stands are says more) =
    let (left, walk) = proof_for Known next rest value more in
    let (nodes, takes) = takes_next Known r b n left stands are in (nodes, walks_on nodes left r next path rest n (Ok value) takes says walk)

pub proof_exists : (xs : List (List ℕ)) (i : ℕ) → AreListed 0 xs → i < 2 ^ 64
    → (nodes : List (List ℕ)) × ProofGives (ordered_root xs) (encoding (number_item i)) nodes (Ok (slice_get xs i))
proof_exists xs i are small = proof_for (IsKnown (ordered_nodes xs)) (string (ordered_root xs)) (place_path i) (slice_get xs i) (list_has xs i are small)

pub item_agrees : (nodes xs : List (List ℕ)) (root key : List ℕ) (place : ℕ) (r : Result (Option (Vec ℕ)) ProofFault) → key ≡ encoding (number_item place) → place < 2 ^ 64
    → IfOk r (λ value. HasValue (IsKnown nodes) (string root) (nibbles_of key) (option_map vec_items value)) → AreListed 0 xs → root ≡ ordered_root xs
    → IfOk r (λ value. (option_map vec_items value ≡ slice_get xs place) ⊎ HasCollision (known_of nodes) (known_of (ordered_nodes xs)))
item_agrees nodes xs root key place (Ok value) path small has are same =
    proofs_tell nodes xs place (option_map vec_items value) are small
    (subst (λ d. HasValue (IsKnown nodes) (string d) (place_path place) (option_map vec_items value)) same
    (subst (λ k. HasValue (IsKnown nodes) (string root) (nibbles_of k) (option_map vec_items value)) path has))
item_agrees nodes xs root key place (Err e) path small has are same = tt
