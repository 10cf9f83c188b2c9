-- Proofs of what the trie has for a key: lists of the encodings of nodes of the trie, from the root down.
use Rattle.std.specs.{Prelude.{ℕ, ◌≡◌, ◌⊎◌, ⊤, if◌then◌else◌, Contains, List, [], ◌∷◌, ◌++◌, codes, Option, Result, Ok, Err}, Str.bytes_eq}
use Rattle.rlp_records.specs.Keccak.{keccak256}
use Rattle.rlp.specs.{DecoderError.DecoderError, Format.Encoding.{encoding, Item, list, string}, Views.Text.error_name, Views.View.strict_view_of, Form.{Faults}}
use Rattle.rlp_trie.specs.{HexPrefix.nibbles_of, Lookup.{Encodes, ends, goes, step}, TrieNodeLaws.trie_node, declared.proof.ProofFault.{ProofFault}}
use Rattle.rlp_trie.specs.{declared.proof.ProofFault.TheVariants.{FaultyNode, MissingNode, NodesLeft, OtherHash, OutOfMemory}, declared.trie_node.TrieNode.{TrieNode}}

-- the printed text of a fault
abbrev pub proof_fault_text : ProofFault → List ℕ
proof_fault_text MissingNode = codes "MissingNode"
proof_fault_text OtherHash = codes "OtherHash"
proof_fault_text (FaultyNode e) = codes "FaultyNode(" ++ error_name e ++ codes ")"
proof_fault_text NodesLeft = codes "NodesLeft"
proof_fault_text OutOfMemory = codes "OutOfMemory"

-- the encodings that are known from a proof: the encodings of its nodes, and the encoding of the empty trie
abbrev pub IsKnown : List (List ℕ) → List ℕ → Type 0
IsKnown nodes b = Contains nodes b ⊎ (b ≡ encoding (string []))

-- an encoding of the first set and an encoding of the second set with equal hashes are equal
abbrev pub TellApart : (List ℕ → Type 0) → (List ℕ → Type 0) → Type 0
TellApart Known Other = (b c : List ℕ) → Known b → Other c → keccak256 b ≡ keccak256 c → b ≡ c

-- the nodes of a proof, without the first if it repeats a node that is kept in its parent
abbrev pub unless_repeated : List ℕ → List (List ℕ) → List (List ℕ)
unless_repeated kept [] = []
unless_repeated kept (b ∷ left) = if bytes_eq b kept then left else b ∷ left

-- The encoding of the node that a reference stands for, and the nodes of a proof that are left, or why the proof has no such encoding. A list is the node itself,
-- which the next node of the proof may repeat. A string is the hash of the next node of the proof, except for the hash of the empty trie, which needs no node.
abbrev pub next_node : Item → List (List ℕ) → Result (List ℕ × List (List ℕ)) ProofFault
next_node (list xs) nodes = Ok (encoding (list xs), unless_repeated (encoding (list xs)) nodes)
next_node (string h) [] = if bytes_eq h (keccak256 (encoding (string []))) then Ok (encoding (string []), []) else Err MissingNode
next_node (string h) (b ∷ left) = if bytes_eq h (keccak256 b) then Ok (b, left) else Err OtherHash

-- the reference stands for this node, and these nodes of a proof are left
pub record TakesNode (reference : Item) (nodes : List (List ℕ)) (n : TrieNode) (left : List (List ℕ)) : Type 0 where
  pub bytes : List ℕ
  pub next : next_node reference nodes ≡ Ok (bytes, left)
  pub are : Encodes bytes n

-- why bytes aren't the encoding of a node
pub data IsUnread (b : List ℕ) : ProofFault → Type 0 where
  unread : (e : DecoderError) → Faults trie_node.reading (strict_view_of b) e → IsUnread b (FaultyNode e)

-- Why a proof gives no node for a reference: it has no encoding for the reference, or these bytes aren't the encoding of a node.
pub data IsNoNode (reference : Item) (nodes : List (List ℕ)) (e : ProofFault) : Type 0 where
  no_next : next_node reference nodes ≡ Err e → IsNoNode reference nodes e
  next_unread : (b : List ℕ) (left : List (List ℕ)) → next_node reference nodes ≡ Ok (b, left) → IsUnread b e → IsNoNode reference nodes e

-- How the walk over the nodes of a proof ends, from a reference on along a path: at the last node with what the trie has for the path, or with a fault.
pub data Walk : List (List ℕ) → Item → List ℕ → Result (Option (List ℕ)) ProofFault → Type 0 where
  stops : (nodes : List (List ℕ)) (reference : Item) (path : List ℕ) (e : ProofFault) → IsNoNode reference nodes e → Walk nodes reference path (Err e)
  ends_at_last : (nodes : List (List ℕ)) (reference : Item) (path : List ℕ) (n : TrieNode) (value : Option (List ℕ)) → TakesNode reference nodes n []
      → step n path ≡ ends value → Walk nodes reference path (Ok value)
  ends_early : (nodes left : List (List ℕ)) (reference : Item) (b path : List ℕ) (n : TrieNode) (value : Option (List ℕ))
      → TakesNode reference nodes n (b ∷ left) → step n path ≡ ends value → Walk nodes reference path (Err NodesLeft)
  walks_on : (nodes left : List (List ℕ)) (reference next : Item) (path rest : List ℕ) (n : TrieNode) (outcome : Result (Option (List ℕ)) ProofFault)
      → TakesNode reference nodes n left → step n path ≡ goes next rest → Walk left next rest outcome → Walk nodes reference path outcome

-- how the walk ends from the root along the nibbles of a key
abbrev pub ProofGives : List ℕ → List ℕ → List (List ℕ) → Result (Option (List ℕ)) ProofFault → Type 0
ProofGives root key nodes outcome = Walk nodes (string root) (nibbles_of key) outcome

-- faults of one kind: equal faults, or two faults of nodes that can't be read
abbrev pub IsSameKind : ProofFault → ProofFault → Type 0
IsSameKind (FaultyNode d) (FaultyNode e) = ⊤
IsSameKind d e = d ≡ e
