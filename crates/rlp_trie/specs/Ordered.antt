-- The trie that has the values of a list, each at the encoding of its place: appendix D and section 4.3 of the yellow paper.
use Rattle.std.specs.Prelude.{ℕ, zero, suc, ◌==◌, nat_lt, if◌then◌else◌, true, false, List, [], ◌∷◌, ◌++◌, length, Option, Some, None}
use Rattle.std.specs.Str.{bytes_eq}
use Rattle.rlp_format.specs.{Format.Encoding.{Item, encoding, list_of, string}, Values.Value.number_item}
use Rattle.rlp_records.specs.Keccak.{keccak256}
use Rattle.rlp_trie.specs.HexPrefix.{hex_prefix, nibbles_of}

-- ---- pairs

-- a path of nibbles and the value that the trie has for it; no path begins another
abbrev pub Pair : Type 0
Pair = List ℕ × List ℕ

-- the value of the first pair with this path
abbrev pub value_at : List ℕ → List Pair → Option (List ℕ)
value_at path [] = None
value_at path (p ∷ ps) = if bytes_eq p.0 path then Some p.1 else value_at path ps

-- the pairs whose path begins with this nibble, each with the rest of its path
abbrev pub below : ℕ → List Pair → List Pair
below k [] = []
below k (([], v) ∷ ps) = below k ps
below k ((n ∷ x, v) ∷ ps) = if n == k then (x, v) ∷ below k ps else below k ps

-- the same for several nibbles
abbrev pub below_all : List ℕ → List Pair → List Pair
below_all [] ps = ps
below_all (k ∷ x) ps = below_all x (below k ps)

-- the nibbles with which both paths begin
abbrev pub common : List ℕ → List ℕ → List ℕ
common [] y = []
common (a ∷ x) [] = []
common (a ∷ x) (b ∷ y) = if a == b then a ∷ common x y else []

-- the nibbles with which x and all the paths begin
abbrev pub shared : List ℕ → List Pair → List ℕ
shared x [] = x
shared x (p ∷ ps) = shared (common x p.0) ps

-- ---- nodes

-- A node is kept in its parent if its encoding has fewer than 32 bytes, and else its hash stands for it.
abbrev pub reference : Item → Item
reference x = if nat_lt (length (encoding x)) 32 then x else string (keccak256 (encoding x))

-- f k, f (k + 1), .., for n numbers
abbrev pub in_turn : {A : Type 0} → (ℕ → A) → ℕ → ℕ → List A
in_turn f k zero = []
in_turn f k (suc n) = f k ∷ in_turn f (suc k) n

-- the list of the path and the value
abbrev pub leaf_item : List ℕ → List ℕ → Item
leaf_item x v = list_of (string (hex_prefix true x) ∷ string v ∷ [])

-- the list of a part of the path and the node below
abbrev pub extension_item : List ℕ → Item → Item
extension_item x inner = list_of (string (hex_prefix false x) ∷ reference inner ∷ [])

-- the list of the nodes below each nibble and no value
abbrev pub branch_item : (ℕ → Item) → Item
branch_item inner = list_of (in_turn (λ k. reference (inner k)) 0 16 ++ string [] ∷ [])

-- two or more pairs: a branch if their paths share no nibble, and else an extension by these nibbles
abbrev pub parent : (List Pair → Item) → List Pair → List ℕ → Item
parent inner ps [] = branch_item (λ k. inner (below k ps))
parent inner ps (k ∷ x) = extension_item (k ∷ x) (inner (below_all (k ∷ x) ps))

-- The node of pairs, whose paths have fewer nibbles than there are turns: the empty string for none, a leaf for one, and else their parent. A branch has no value
-- of its own, since no path begins another, so that no path ends at it.
unfoldable pub node : ℕ → List Pair → Item
node zero ps = string []
node (suc turns) [] = string []
node (suc turns) (p ∷ []) = leaf_item p.0 p.1
node (suc turns) (p ∷ q ∷ ps) = parent (node turns) (p ∷ q ∷ ps) (shared p.0 (q ∷ ps))

-- ---- the nodes whose hash is used

-- the encoding of a node, if its hash stands for it in its parent
abbrev pub if_named : Item → List (List ℕ)
if_named x = if nat_lt (length (encoding x)) 32 then [] else encoding x ∷ []

-- f k, f (k + 1), .., for n numbers, one after another
abbrev pub joined : (ℕ → List (List ℕ)) → ℕ → ℕ → List (List ℕ)
joined f k zero = []
joined f k (suc n) = f k ++ joined f (suc k) n

abbrev pub named_in : (List Pair → List (List ℕ)) → List Pair → List ℕ → List (List ℕ)
named_in inner ps [] = joined (λ k. inner (below k ps)) 0 16
named_in inner ps (k ∷ x) = inner (below_all (k ∷ x) ps)

-- the encodings of the nodes below the node of pairs whose hash is used
unfoldable pub named : ℕ → List Pair → List (List ℕ)
named zero ps = []
named (suc turns) [] = []
named (suc turns) (p ∷ []) = []
named (suc turns) (p ∷ q ∷ ps) =
    named_in (λ qs. if_named (node turns qs) ++ named turns qs) (p ∷ q ∷ ps) (shared p.0 (q ∷ ps))

-- ---- lists

-- the path of a place: the nibbles of the encoding of its number
abbrev pub place_path : ℕ → List ℕ
place_path i = nibbles_of (encoding (number_item i))

-- the values, each with the path of its place, from place i on
abbrev pub pairs_from : ℕ → List (List ℕ) → List Pair
pairs_from i [] = []
pairs_from i (v ∷ vs) = (place_path i, v) ∷ pairs_from (suc i) vs

-- the root node of the trie of a list; the encoding of a place below 2^64 has at most 18 nibbles
abbrev pub ordered_node : List (List ℕ) → Item
ordered_node vs = node 19 (pairs_from 0 vs)

-- the root: the hash of the root node, however short it is
abbrev pub ordered_root : List (List ℕ) → List ℕ
ordered_root vs = keccak256 (encoding (ordered_node vs))

-- the encodings of the nodes of the trie whose hash is used: of the root node, and of those below it that aren't kept in their parents
abbrev pub ordered_nodes : List (List ℕ) → List (List ℕ)
ordered_nodes vs = encoding (ordered_node vs) ∷ named 19 (pairs_from 0 vs)
