-- Clones of accounts are seen as the accounts are.
use Rattle.std.{proofs.Common.{◌≡◌, ap, sym, subst}, specs.{Prelude.{IsTrue, Vec}, List.{AllZip, each_same}, Vec.vec_items, declared.alloc.Global.Global}}
use Rattle.rlp.specs.{Codec.{Codec, byte_string, number, uint}, Uint.Uint}
use Rattle.rlp_records.proofs.Clones.{clones_seen}
use Rattle.rlp_headers.specs.{AccessOrder.{AreAccountsInOrder, accounts_in_order, block_access_list}, Changes.{account_changes, change, slot_changes}}
use Rattle.rlp_headers.specs.declared.block_access_list.changes.AccountChanges.{AccountChanges}
use Rattle.rlp_headers.specs.{declared.block_access_list.changes.SlotChanges.SlotChanges, declared.block_access_list.changes.StateChange.StateChange}
use Rattle.rlp_headers.specs.contracts.block_access_list.changes.AccountChangesClone.TheImpl.{is_clone-value as account_clone}
use Rattle.rlp_headers.specs.contracts.block_access_list.changes.SlotChangesClone.TheImpl.{is_clone-value as slot_clone}

-- changes of values that are seen alike are seen alike
change_same : {A : Type 0} (c : Codec A) (x y : StateChange A) → y.block_access_index ≡ x.block_access_index
    → c.reading.seen y.new_value ≡ c.reading.seen x.new_value → (change c).reading.seen y ≡ (change c).reading.seen x
change_same c x y place value = cc

slot_same : (x y : SlotChanges) → slot_clone.it x y → slot_changes.reading.seen y ≡ slot_changes.reading.seen x
slot_same x y is =
    let slot : y.slot ≡ x.slot = is.0 in
    let changes =
    clones_seen _ (change (uint 32)).reading.seen (λ a b r. change_same (uint 32) a b r.0 (ap (uint 32).reading.seen r.1)) (vec_items x.changes) (vec_items y.changes) is.1.0 in
    cc

account_same : (x y : AccountChanges) → account_clone.it x y → account_changes.reading.seen y ≡ account_changes.reading.seen x
account_same x y is =
    let address : y.address ≡ x.address = is.0 in
    let storage = clones_seen _ slot_changes.reading.seen slot_same (vec_items x.storage_changes) (vec_items y.storage_changes) is.1.0.0 in
    let reads = each_same (vec_items x.storage_reads) (vec_items y.storage_reads) is.1.1.0.0 in
    let balances =
    clones_seen _ (change (uint 32)).reading.seen (λ a b r. change_same (uint 32) a b r.0 (ap (uint 32).reading.seen r.1)) (vec_items x.balance_changes) (vec_items y.balance_changes)
    is.1.1.1.0.0 in
    let nonces =
    clones_seen _ (change (number 8)).reading.seen (λ a b r. change_same (number 8) a b r.0 r.1) (vec_items x.nonce_changes) (vec_items y.nonce_changes)
    is.1.1.1.1.0.0 in
    let codes =
    clones_seen _ (change (byte_string vec_items)).reading.seen (λ a b r. change_same (byte_string vec_items) a b r.0 (each_same _ _ r.1.0)) (vec_items x.code_changes)
    (vec_items y.code_changes) is.1.1.1.1.1.0 in
    cc

-- clones of accounts are seen alike
pub accounts_seen : (xs ys : Vec AccountChanges Global) → AllZip account_clone.it (vec_items xs) (vec_items ys)
    → block_access_list.reading.seen ys ≡ block_access_list.reading.seen xs
accounts_seen xs ys all = clones_seen account_clone.it account_changes.reading.seen account_same (vec_items xs) (vec_items ys) all

-- and are in order, if the accounts are
pub accounts_stay : (xs ys : Vec AccountChanges Global) → AllZip account_clone.it (vec_items xs) (vec_items ys) → AreAccountsInOrder xs → AreAccountsInOrder ys
unfolding AreAccountsInOrder
accounts_stay xs ys all is = subst (λ ms. IsTrue (accounts_in_order ms)) (sym (accounts_seen xs ys all)) is

pub ruleset clones = (accounts_seen, accounts_stay)
