-- What the trie has for a path of nibbles: appendix D of the yellow paper.
use Rattle.std.specs.{Prelude.{ℕ, ◌≡◌, ◌^◌, ◌<◌, if◌then◌else◌, nat_eq, List, [], ◌∷◌, drop, length, Option, Some, None}, List.starts_with, Str.bytes_eq, Vec.vec_items}
use Rattle.rlp_records.specs.Keccak.{keccak256}
use Rattle.rlp.specs.Format.Encoding.{encoding, Item, Items, list, string}
use Rattle.rlp_trie.specs.{Child.child_item, HexPrefix.path_nibbles, Trie.child_at, TrieNode.{IsTrieNode, node_item}, declared.child.Child.Child}
use Rattle.rlp_trie.specs.{declared.trie_node.TrieNode.TrieNode, declared.trie_node.TrieNode.TheVariants.{Branch, Empty, Extension, Leaf}}

-- ---- one node

-- What a node says of a path: the value of the path, or that it has no value, or the reference to the node below and the rest of the path.
pub data Step : Type 0 where
  ends : Option (List ℕ) → Step
  goes : Item → List ℕ → Step

-- an extension leads to its child if the path begins with its own nibbles
abbrev pub extension_step : List ℕ → Item → List ℕ → Step
extension_step own child path = if starts_with nat_eq path own then goes child (drop (length own) path) else ends None

-- a branch leads to the child of the next nibble, if there is one
abbrev pub place_step : Option Child → List ℕ → Step
place_step None rest = ends None
place_step (Some child) rest = goes (child_item child) rest

-- the value of a branch, which is `None` if it has no bytes
abbrev pub branch_value : List ℕ → Option (List ℕ)
branch_value [] = None
branch_value (byte ∷ more) = Some (byte ∷ more)

-- The empty trie has no value. A leaf has the value of its own path. A branch has the value of the path that ends at it.
abbrev pub step : TrieNode → List ℕ → Step
step Empty path = ends None
step (Leaf l) path = ends (if bytes_eq (path_nibbles (vec_items l.path.bytes)) path then Some (vec_items l.value) else None)
step (Extension e) path = extension_step (path_nibbles (vec_items e.path.bytes)) (child_item e.child) path
step (Branch b) [] = ends (branch_value (vec_items b.value))
step (Branch b) (nibble ∷ rest) = place_step (child_at nibble b).0 rest

-- ---- from node to node

-- the bytes, which a slice can hold, are the encoding of the node
pub record Encodes (b : List ℕ) (n : TrieNode) : Type 0 where
  pub fits : IsTrieNode n
  pub is : b ≡ encoding (node_item n)
  pub sized : length b < 2 ^ 64

-- The encoding of the node that a reference stands for: a string is the hash of an encoding that is known, and a list is the node itself.
pub data StandsFor (Known : List ℕ → Type 0) : Item → List ℕ → Type 0 where
  by_hash : (h b : List ℕ) → Known b → h ≡ keccak256 b → StandsFor Known (string h) b
  in_parent : (xs : Items) → StandsFor Known (list xs) (encoding (list xs))

-- The trie below a reference, of which these encodings of nodes are known, has this value for a path, or no value if `None`.
pub data HasValue (Known : List ℕ → Type 0) : Item → List ℕ → Option (List ℕ) → Type 0 where
  ends_here : (reference : Item) (b path : List ℕ) (n : TrieNode) (value : Option (List ℕ)) → StandsFor Known reference b → Encodes b n
      → step n path ≡ ends value → HasValue Known reference path value
  leads_on : (reference next : Item) (b path rest : List ℕ) (n : TrieNode) (value : Option (List ℕ)) → StandsFor Known reference b → Encodes b n
      → step n path ≡ goes next rest → HasValue Known next rest value → HasValue Known reference path value
