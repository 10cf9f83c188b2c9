-- The roots of the parts of a block, and the roots that its header names: section 4.3 of the yellow paper, EIP-2718 and EIP-4895.
use Rattle.std.specs.{Prelude.{ℕ, if◌then◌else◌, List, map, Option, Some, None, option_map}, Str.bytes_eq, Vec.vec_items}
use Rattle.rlp.specs.Format.Encoding.{encoding, list_of}
use Rattle.rlp_records.specs.{Alone.bytes_alone, Keccak.keccak256, declared.known_or_other.KnownOrOther.KnownOrOther}
use Rattle.rlp_trie.specs.Ordered.{ordered_root}
use Rattle.rlp_transactions.specs.{Transaction.any_transaction, declared.transaction.Transaction.Transaction}
use Rattle.rlp_headers.specs.{Header.{header, since_shanghai}, Withdrawal.withdrawal, declared.header.Header.Header, declared.withdrawal.Withdrawals.Withdrawals}
use Rattle.rlp_blocks.specs.declared.roots.{BodyFault.BodyFault, BodyRoots.BodyRoots}
use Rattle.rlp_blocks.specs.declared.roots.BodyFault.TheVariants as fault

-- the root of the transactions, the hash of the ommers, and the root of the withdrawals, if there are withdrawals
abbrev pub Roots : Type 0
Roots = List ℕ × (List ℕ × Option (List ℕ))

abbrev pub seen_roots : BodyRoots → Roots
seen_roots r = (r.transactions.0, (r.ommers.0, option_map (λ h. h.0) r.withdrawals))

-- the values of the trie of the transactions: of each its standalone bytes
abbrev pub transaction_values : List (KnownOrOther Transaction) → List (List ℕ)
transaction_values ts = map bytes_alone (map any_transaction.item ts)

-- the values of the trie of the withdrawals: of each its encoding
abbrev pub withdrawal_values : Withdrawals → List (List ℕ)
withdrawal_values ws = map encoding (map withdrawal.item (vec_items ws.0))

-- the roots of these transactions, ommers and withdrawals
abbrev pub body_roots : List (KnownOrOther Transaction) → List Header → Option Withdrawals → Roots
body_roots ts os ws =
    (ordered_root (transaction_values ts), (keccak256 (encoding (list_of (map header.item os))), option_map (λ w. ordered_root (withdrawal_values w)) ws))

-- the roots that a header names; it names a root of withdrawals since Shanghai
abbrev pub header_roots : Header → Roots
header_roots h = (h.transactions_root.0, (h.ommers_hash.0, option_map (λ s. s.withdrawals_root.0) (since_shanghai h)))

-- how roots of withdrawals differ, if they differ: the named root, and the root of the withdrawals
abbrev pub withdrawals_fault : Option (List ℕ) → Option (List ℕ) → Option BodyFault
withdrawals_fault None None = None
withdrawals_fault None (Some found) = Some fault.NeedlessWithdrawals
withdrawals_fault (Some named) None = Some fault.NoWithdrawals
withdrawals_fault (Some named) (Some found) = if bytes_eq named found then None else Some fault.Withdrawals

-- the first difference between named roots and the roots of a body: of the transactions, the ommers, and the withdrawals, in this order
abbrev pub roots_fault : Roots → Roots → Option BodyFault
roots_fault (named_transactions, (named_ommers, named_withdrawals)) (transactions, (ommers, withdrawals)) =
    if bytes_eq named_transactions transactions then (if bytes_eq named_ommers ommers then withdrawals_fault named_withdrawals withdrawals else Some fault.Ommers)
    else Some fault.Transactions
