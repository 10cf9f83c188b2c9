-- Blocks whose bodies are the ones that their headers name.
use Rattle.std.specs.{Prelude.{ℕ, ◌≡◌, ◌<◌, ◌^◌, List, [], ◌∷◌, ◌++◌, length, map, Option, Some, None}, Vec.vec_items}
use Rattle.rlp.specs.Format.Encoding.{encoding, list_of}
use Rattle.rlp_trie.specs.{Listed.{AreListed, known_of}, Ordered.ordered_nodes}
use Rattle.rlp_headers.specs.{Header.header, declared.withdrawal.Withdrawals.Withdrawals}
use Rattle.rlp_blocks.specs.{Block.block, Roots.{body_roots, header_roots, transaction_values, withdrawal_values}, declared.block.Block.Block}

-- the encoding of the header, and the encoding of the list of the ommers
abbrev pub header_bytes : Block → List ℕ
header_bytes b = encoding (header.item b.header)

abbrev pub ommers_bytes : Block → List ℕ
ommers_bytes b = encoding (list_of (map header.item (vec_items b.ommers)))

-- the values of the trie of the withdrawals, if there are withdrawals
abbrev pub listed_withdrawals : Option Withdrawals → List (List ℕ)
listed_withdrawals None = []
listed_withdrawals (Some ws) = withdrawal_values ws

-- The header names the roots of the body, and its ommers; and everything is as long as slices are.
pub record IsBound (b : Block) : Type 0 where
  pub fits : block.Fits b
  pub roots : header_roots b.header ≡ body_roots (vec_items b.transactions) (vec_items b.ommers) b.withdrawals
  pub header : length (header_bytes b) < 2 ^ 64
  pub ommers : length (ommers_bytes b) < 2 ^ 64
  pub transactions : AreListed 0 (transaction_values (vec_items b.transactions))
  pub withdrawals : AreListed 0 (listed_withdrawals b.withdrawals)

-- What the hash of a bound block stands for: the header, the list of the ommers, and the nodes of the tries of the transactions and of the withdrawals whose hash
-- is used.
abbrev pub hashed : Block → List (List ℕ)
hashed b =
    header_bytes b ∷ ommers_bytes b
    ∷ (known_of (ordered_nodes (transaction_values (vec_items b.transactions))) ++ known_of (ordered_nodes (listed_withdrawals b.withdrawals)))
