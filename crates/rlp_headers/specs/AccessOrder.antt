-- The order of the lists in an access list of a block.
use Rattle.std.specs.{Prelude.{ℕ, Bool, true, ◌&&◌, codes, nat_lt, IsTrue, List, [], ◌∷◌, map, Vec}, Cmp.Lexicographic.slice_cmp}
use Rattle.std.specs.{Ordering.{is_lt, nat_cmp}, Vec.vec_items, declared.alloc.Global.Global}
use Rattle.rlp.specs.Codec.{Codec, list_type}
use Rattle.rlp_records.specs.{Tested.tested, TestedForm.Passes}
use Rattle.rlp_headers.specs.{Changes.{account_changes, slot_changes}, declared.block_access_list.changes.AccountChanges.AccountChanges}

-- the lists in each value are in order, and each value comes before the next
abbrev pub in_order : {M : Type 0} → (M → M → Bool) → (M → Bool) → List M → Bool
in_order before inside [] = true
in_order before inside (x ∷ []) = inside x
in_order before inside (x ∷ y ∷ more) = inside x && (before x y && in_order before inside (y ∷ more))

-- values that begin with a number, by that number: changes by their place in the block, and slots
abbrev pub first_before : {M : Type 0} → ℕ × M → ℕ × M → Bool
first_before m n = nat_lt m.0 n.0

-- the changes of one value are in order
abbrev pub changes_in_order : {M : Type 0} → List (ℕ × M) → Bool
changes_in_order ms = in_order first_before (λ m. true) ms

-- the changes of a slot are in order
abbrev pub slot_inside : slot_changes.reading.M → Bool
slot_inside m = changes_in_order m.1.0

-- addresses are in order by their bytes
abbrev pub account_before : account_changes.reading.M → account_changes.reading.M → Bool
account_before m n = is_lt (slice_cmp nat_cmp m.0 n.0)

-- the slots of an account that changed are in order, and so are the slots that were read
abbrev pub storage_in_order : account_changes.reading.M → Bool
storage_in_order m = in_order first_before slot_inside m.1.0 && in_order nat_lt (λ n. true) m.1.1.0

-- the changes of the balance, the nonce and the code of an account are in order
abbrev pub account_changes_in_order : account_changes.reading.M → Bool
account_changes_in_order m = changes_in_order m.1.1.1.0 && (changes_in_order m.1.1.1.1.0 && changes_in_order m.1.1.1.1.1.0)

-- all lists of an account are in order
abbrev pub account_inside : account_changes.reading.M → Bool
account_inside m = storage_in_order m && account_changes_in_order m

-- whether accounts are in order, and the lists in each account
abbrev pub accounts_in_order : List account_changes.reading.M → Bool
accounts_in_order ms = in_order account_before account_inside ms

-- the list of accounts in any order
abbrev pub accounts : Codec (Vec AccountChanges Global)
accounts = list_type vec_items account_changes

-- An access list of a block, seen as its accounts: the list of the accounts. Reading fails with `Custom` with this text if the accounts aren't in order.
abbrev pub block_access_list : Codec (Vec AccountChanges Global)
block_access_list =
    tested (codes "accounts are not in order") accounts accounts_in_order (Passes accounts accounts_in_order) (λ xs. (λ passes. passes, λ passes. passes))

-- the accounts are in order, and so are the lists in each account
unfoldable pub AreAccountsInOrder : Vec AccountChanges Global → Type 0
AreAccountsInOrder accounts = IsTrue (accounts_in_order (map account_changes.reading.seen (vec_items accounts)))
