-- Roots that don't differ are equal, and equal roots don't differ.
use Rattle.std.proofs.{Common.{◌≡◌, ◌∙◌, ℕ, ap, sym, refl, if◌then◌else◌, Bool, true, false, List, [], ◌∷◌, map, Option, None, Some, Result, Ok, Err, IfOk}, lemmas.Bool.{cond-true, cond-false}, lemmas.Slice.Eq.bytes_eq-Decides}
use Rattle.std.specs.{Str.bytes_eq}
use Rattle.std.specs.declared.alloc.AllocError.{AllocError}
use Rattle.rlp.specs.Format.Encoding.{encoding}
use Rattle.rlp_trie.specs.Ordered.{ordered_root}
use Rattle.rlp_records.specs.{Alone.bytes_alone, declared.hash.Hash.Hash, declared.known_or_other.KnownOrOther.KnownOrOther}
use Rattle.rlp_headers.specs.{Withdrawal.withdrawal, declared.withdrawal.Withdrawal.Withdrawal}
use Rattle.rlp_transactions.specs.{Transaction.any_transaction, declared.transaction.Transaction.Transaction}
use Rattle.rlp_blocks.specs.{Roots.{Roots, roots_fault, transaction_values, withdrawals_fault}, declared.roots.BodyFault.BodyFault}
use Rattle.rlp_blocks.specs.declared.roots.BodyFault.TheVariants as fault

-- the bytes are equal, if otherwise there is a fault
pub equal_bytes : (x y : List ℕ) (rest other : Option BodyFault) (e : BodyFault) → (if bytes_eq x y then rest else other) ≡ None → other ≡ Some e
    → (x ≡ y) × (rest ≡ None)
equal_bytes x y rest other e is differ = decided (bytes_eq x y) refl
  where
    decided : (t : Bool) → bytes_eq x y ≡ t → (x ≡ y) × (rest ≡ None)
    decided true same = ((bytes_eq-Decides x y).0 same, sym (cond-true (bytes_eq x y) rest other same) ∙ is)
    decided false same =
        let both = sym is ∙ cond-false (bytes_eq x y) rest other same ∙ differ in
        absurd (let no : ⊥ = cc in no)

options_same : (a b : Option (List ℕ)) → withdrawals_fault a b ≡ None → a ≡ b
options_same None None is = refl
options_same None (Some y) is = absurd (let no : ⊥ = cc in no)
options_same (Some x) None is = absurd (let no : ⊥ = cc in no)
options_same (Some x) (Some y) is = ap Some (equal_bytes x y None (Some fault.Withdrawals) fault.Withdrawals is refl).0

-- roots that don't differ are equal
pub roots_same : (a b : Roots) → roots_fault a b ≡ None → a ≡ b
roots_same (t, (o, w)) (u, (p, x)) is =
    let rest = if bytes_eq o p then withdrawals_fault w x else Some fault.Ommers in
    let one = equal_bytes t u rest (Some fault.Transactions) fault.Transactions is refl in
    let two = equal_bytes o p (withdrawals_fault w x) (Some fault.Ommers) fault.Ommers one.1 refl in
    let three = options_same w x two.1 in
    let first = one.0 in
    let second = two.0 in
    cc

itself : (x : List ℕ) → bytes_eq x x ≡ true
itself x = (bytes_eq-Decides x x).1 refl

option_itself : (a : Option (List ℕ)) → withdrawals_fault a a ≡ None
option_itself None = refl
option_itself (Some x) = cond-true (bytes_eq x x) None (Some fault.Withdrawals) (itself x)

-- roots don't differ from themselves
pub no_fault : (a : Roots) → roots_fault a a ≡ None
no_fault (t, (o, w)) =
    cond-true (bytes_eq t t) (if bytes_eq o o then withdrawals_fault w w else Some fault.Ommers) (Some fault.Transactions) (itself t)
    ∙ cond-true (bytes_eq o o) (withdrawals_fault w w) (Some fault.Ommers) (itself o) ∙ option_itself w

-- equal roots don't differ
pub no_fault_if : (a b : Roots) → a ≡ b → roots_fault a b ≡ None
no_fault_if a b same = ap (roots_fault a) (sym same) ∙ no_fault a

-- ---- values of tries

pub transaction_values_are : (ts : List (KnownOrOther Transaction)) → map (λ t. bytes_alone (any_transaction.item t)) ts ≡ transaction_values ts
transaction_values_are [] = refl
transaction_values_are (t ∷ ts) = ap (λ (others : List (List ℕ)). bytes_alone (any_transaction.item t) ∷ others) (transaction_values_are ts)

pub withdrawal_values_are : (ws : List Withdrawal) → map (λ w. encoding (withdrawal.item w)) ws ≡ map encoding (map withdrawal.item ws)
withdrawal_values_are [] = refl
withdrawal_values_are (w ∷ ws) = ap (λ (others : List (List ℕ)). encoding (withdrawal.item w) ∷ others) (withdrawal_values_are ws)

-- the root of a list is the root of an equal list
pub root_if_same : (r : Result Hash AllocError) (one other : List (List ℕ)) → one ≡ other → IfOk r (λ h. h.0 ≡ ordered_root one)
    → IfOk r (λ h. h.0 ≡ ordered_root other)
root_if_same (Ok h) one other same is = is ∙ ap ordered_root same
root_if_same (Err e) one other same is = is
