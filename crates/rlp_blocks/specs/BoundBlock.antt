-- What is seen of bound blocks, and why a header and a body, or bytes, give none.
use Rattle.std.specs.{Prelude.{ℕ, ◌≡◌, List, Option, option_map}, Vec.vec_items}
use Rattle.rlp.specs.Format.Encoding.{encoding}
use Rattle.rlp_trie.specs.{Listed.AreListed, Ordered.ordered_root}
use Rattle.rlp_records.specs.{Hashing.{AreHashesOf, IsHashOf}, declared.hash.Hash.Hash}
use Rattle.rlp_headers.specs.declared.withdrawal.Withdrawals.{Withdrawals}
use Rattle.rlp_blocks.specs.{Block.block, Bound.{IsBound, header_bytes, listed_withdrawals}, Roots.{body_roots, header_roots, roots_fault, seen_roots, transaction_values, withdrawal_values}}
use Rattle.rlp_blocks.specs.{declared.block.Block.Block, declared.block.BlockHashes.BlockHashes, declared.roots.BodyFault.BodyFault, declared.roots.BodyRoots.BodyRoots}

-- a block, the hash of its header, and the hashes of its transactions, in order
pub record HashedBlock : Type 0 where
  pub block : Block
  pub hash : Hash
  pub transaction_hashes : List Hash

-- The header names the body, and the hashes are the hashes of the header and of the standalone bytes of the transactions.
pub record IsBoundBlock (b : HashedBlock) : Type 0 where
  pub bound : IsBound b.block
  pub hash : IsHashOf b.hash (header_bytes b.block)
  pub transactions : AreHashesOf b.transaction_hashes (transaction_values (vec_items b.block.transactions))

-- the bytes are the encoding of this block, which fits
pub record IsEncodingOf (d : List ℕ) (b : Block) : Type 0 where
  pub fits : block.Fits b
  pub bytes : d ≡ encoding (block.item b)

-- how the body of a block differs from the body that its header names, if it differs
abbrev pub body_fault : Block → Option BodyFault
body_fault b = roots_fault (header_roots b.header) (body_roots (vec_items b.transactions) (vec_items b.ommers) b.withdrawals)

-- the header names the body
abbrev pub NamesBody : Block → Type 0
NamesBody b = header_roots b.header ≡ body_roots (vec_items b.transactions) (vec_items b.ommers) b.withdrawals

-- ---- what is found in the bytes of a block

-- the hash is the root of the trie of the values, which are as long as slices are
pub record IsRootOf (h : Hash) (values : List (List ℕ)) : Type 0 where
  pub root : h.0 ≡ ordered_root values
  pub listed : AreListed 0 values

-- the same for withdrawals, if there are withdrawals
pub record IsWithdrawalsRoot (found : Option Hash) (ws : Option Withdrawals) : Type 0 where
  pub root : option_map (λ h. h.0) found ≡ option_map (λ w. ordered_root (withdrawal_values w)) ws
  pub listed : AreListed 0 (listed_withdrawals ws)

-- the roots are the roots of the body of the block, whose values are as long as slices are
pub record AreRootsOf (found : BodyRoots) (b : Block) : Type 0 where
  pub roots : seen_roots found ≡ body_roots (vec_items b.transactions) (vec_items b.ommers) b.withdrawals
  pub transactions : AreListed 0 (transaction_values (vec_items b.transactions))
  pub withdrawals : AreListed 0 (listed_withdrawals b.withdrawals)

-- the hashes are the hashes of the header and of the standalone bytes of the transactions
pub record AreBlockHashes (hashes : BlockHashes) (b : Block) : Type 0 where
  pub header : IsHashOf hashes.header (header_bytes b)
  pub transactions : AreHashesOf (vec_items hashes.transactions) (transaction_values (vec_items b.transactions))
