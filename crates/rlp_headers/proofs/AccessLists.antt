-- What views give as access lists of blocks.
use Rattle.std.{proofs.{Common.{◌≡◌, Ok, Err, ap, ◌∙◌, codes}, lemmas.Bool.{cond-true, cond-false, false_from_ne_true}}, specs.{Prelude.Vec, declared.alloc.Global.Global}}
use Rattle.rlp.specs.{Form.{and_then, custom}, Views.View.View}
use Rattle.rlp_records.specs.TestedForm.{passing}
use Rattle.rlp_headers.specs.{AccessOrder.{AreAccountsInOrder, accounts, accounts_in_order, block_access_list}, declared.block_access_list.changes.AccountChanges.{AccountChanges}}

-- accounts in order
pub read_in_order : (v : View) (xs : Vec AccountChanges Global) → (accounts.reading.read v).result ≡ Ok (accounts.reading.seen xs) → AreAccountsInOrder xs
    → (block_access_list.reading.read v).result ≡ Ok (block_access_list.reading.seen xs)
unfolding AreAccountsInOrder
read_in_order v xs given rising =
    ap (λ r. and_then r (passing (codes "accounts are not in order") accounts_in_order)) given
    ∙ cond-true (accounts_in_order (accounts.reading.seen xs)) _ _ rising

-- accounts that aren't in order
pub read_out_of_order : (v : View) (xs : Vec AccountChanges Global) → (accounts.reading.read v).result ≡ Ok (accounts.reading.seen xs) → ¬ AreAccountsInOrder xs
    → (block_access_list.reading.read v).result ≡ Err (custom (codes "accounts are not in order"))
unfolding AreAccountsInOrder
read_out_of_order v xs given not =
    ap (λ r. and_then r (passing (codes "accounts are not in order") accounts_in_order)) given
    ∙ cond-false (accounts_in_order (accounts.reading.seen xs)) _ _ (false_from_ne_true (accounts_in_order (accounts.reading.seen xs)) not)

pub ruleset access_lists = (read_in_order, read_out_of_order)
