-- The hashes of items, from views that hold the items.
use Rattle.std.proofs.{Common.{◌≡◌, ℕ, ◌^◌, ◌<◌, ◌∙◌, ap, arith, sym, refl, Bool, List, [], ◌∷◌, length, map, Ok, Err}, lemmas.Bool.{cond-true, cond-false}}
use Rattle.std.specs.List.{AllByRecursion}
use Rattle.rlp.specs.{Format.Encoding.{IsSized, Item, encoding, is_list, list, list_of, string}, Format.Framing.begins_as_list, Views.View.{HoldsItem, View, strict_view_of}}
use Rattle.rlp_reading.specs.{Form.{Fault, and_then, here, map_value, read_each, seen_fault}, Laws.{viewed, views_of}}
use Rattle.rlp_reading.proofs.{Lemmas.StringsHeld.{held_begins, held_only}, Lemmas.Views.front_kind, ListLaws.{held_itself, held_sized, items_sized, list_held}}
use Rattle.rlp_reading.proofs.RawLaws.{view_frame-held}
use Rattle.rlp_keccak.specs.Keccak.{keccak256}
use Rattle.rlp_records.specs.{Alone.bytes_alone, Hashing.{IsHashOf, alone_of, hash_of, hashes_of, values_of}, declared.hash.Hash.Hash}

kind_held : (v : View) (x : Item) → length v.bytes < 2 ^ 64 → HoldsItem v x → begins_as_list v.bytes ≡ is_list x
kind_held v x short holds = front_kind x v.bytes (held_sized v.is_strict v.bytes x short holds) (held_begins v x holds)

-- a view of an item has the bytes of the item by itself
pub alone_held : (v : View) (x : Item) → length v.bytes < 2 ^ 64 → HoldsItem v x → alone_of v ≡ Ok (bytes_alone x)
alone_held v (string d) short holds =
    cond-false (begins_as_list v.bytes) _ _ (kind_held v (string d) short holds) ∙ ap seen_fault (held_only v d short holds)
alone_held v (list xs) short holds =
    cond-true (begins_as_list v.bytes) _ _ (kind_held v (list xs) short holds) ∙ ap seen_fault (view_frame-held v (list xs) short holds)

module _ (v : View) (x : Item) (short : length v.bytes < 2 ^ 64) (holds : HoldsItem v x) where
  hash_held : hash_of v ≡ Ok (keccak256 (bytes_alone x))
  hash_held = ap (map_value keccak256) (alone_held v x short holds)

  -- the hash of a view of an item is the hash of the item
  pub hash_is : (h : Hash) → hash_of v ≡ Ok h.0 → IsHashOf h (bytes_alone x)
  hash_is h is = let same = sym is ∙ hash_held in cc

  -- a view of an item has a hash
  pub hash_is_there : (e : Fault) → hash_of v ≡ Err e → ⊥
  hash_is_there e is = let same = sym is ∙ hash_held in cc

-- the same for a strict view
pub strict_hash : (v : View) (b : List ℕ) (x : Item) (h : Hash) → hash_of v ≡ Ok h.0 → v ≡ strict_view_of b → length b < 2 ^ 64 → b ≡ encoding x
    → IsHashOf h (bytes_alone x)
strict_hash v b x h given same short is = hash_is (strict_view_of b) x short is h (ap hash_of (sym same) ∙ given)

pub strict_hash_there : (v : View) (b : List ℕ) (x : Item) (e : Fault) → hash_of v ≡ Err e → v ≡ strict_view_of b → length b < 2 ^ 64 → b ≡ encoding x → ⊥
strict_hash_there v b x e given same short is = hash_is_there (strict_view_of b) x short is e (ap hash_of (sym same) ∙ given)

each_hashed : (is_strict : Bool) (n : ℕ) (xs : List Item) → AllByRecursion IsSized xs
    → (read_each (λ item. here (hash_of item)) n (views_of is_strict xs)).result ≡ Ok (map keccak256 (map bytes_alone xs))
each_hashed is_strict n [] sized = refl
each_hashed is_strict n (x ∷ xs) (one, sized) =
    let first = hash_held (viewed is_strict (encoding x)) x one (held_itself is_strict (encoding x)) in
    let others = each_hashed is_strict n xs sized in
    grind arith

-- a view of a list has the hashes of the items of the list
pub hashes_held : (v : View) (xs : List Item) → length v.bytes < 2 ^ 64 → HoldsItem v (list_of xs) → hashes_of v ≡ Ok (map keccak256 (map bytes_alone xs))
hashes_held v xs short holds =
    ap (λ r. and_then r (λ vs. (read_each (λ item. here (hash_of item)) (length vs) vs).result)) (list_held v.is_strict v.bytes xs short holds)
    ∙ each_hashed v.is_strict (length (views_of v.is_strict xs)) xs (items_sized v.is_strict v.bytes xs short holds)

each_alone : (is_strict : Bool) (n : ℕ) (xs : List Item) → AllByRecursion IsSized xs
    → (read_each (λ item. here (alone_of item)) n (views_of is_strict xs)).result ≡ Ok (map bytes_alone xs)
each_alone is_strict n [] sized = refl
each_alone is_strict n (x ∷ xs) (one, sized) =
    let first = alone_held (viewed is_strict (encoding x)) x one (held_itself is_strict (encoding x)) in
    let others = each_alone is_strict n xs sized in
    grind arith

-- a view of a list has the bytes of the items of the list
pub values_held : (v : View) (xs : List Item) → length v.bytes < 2 ^ 64 → HoldsItem v (list_of xs) → values_of v ≡ Ok (map bytes_alone xs)
values_held v xs short holds =
    ap (λ r. and_then r (λ vs. (read_each (λ item. here (alone_of item)) (length vs) vs).result)) (list_held v.is_strict v.bytes xs short holds)
    ∙ each_alone v.is_strict (length (views_of v.is_strict xs)) xs (items_sized v.is_strict v.bytes xs short holds)
