-- The hashes and the bytes of the items of a list, by the places of the items.
use Rattle.std.proofs.{Common.{◌≡◌, ℕ, ◌^◌, ◌<◌, ◌⊎◌, ◌∙◌, inl, inr, ap, sym, refl, true, List, [], ◌∷◌, ◌++◌, length, map, Result, Ok, Err, IfOk, IfErr, IsOkAnd, MatchResult}}
use Rattle.std.specs.List.{AllByRecursion}
use Rattle.rlp.specs.{DecoderError.DecoderError, DecoderError.TheVariants.OutOfMemory, Format.Encoding.{IsSized, Item, encoding, list_of}}
use Rattle.rlp.specs.Views.View.{View, item_at, strict_view_of}
use Rattle.rlp_reading.specs.Form.{Fault, fault_of}
use Rattle.rlp_reading.proofs.{Lemmas.WholeLists.held_at, ListLaws.items_sized}
use Rattle.rlp_records.proofs.ItemHashes.{hash_is, hash_is_there, hashes_held, values_held}
use Rattle.rlp_records.specs.{Alone.bytes_alone, Hashing.{AreHashesOf, IsHashOf, hash_of, hashes_of, values_of}, Keccak.keccak256, declared.hash.Hash.Hash}

sized_at : (before after : List Item) (x : Item) → AllByRecursion IsSized (before ++ x ∷ after) → IsSized x
sized_at [] after x all = all.0
sized_at (y ∷ before) after x all = sized_at before after x all.1

module _ (v : View) (b : List ℕ) (place : ℕ) (same : v ≡ strict_view_of b) (short : length b < 2 ^ 64) (before after : List Item) (x : Item)
    (at : place ≡ length before) (is : b ≡ encoding (list_of (before ++ x ∷ after))) where
  there : item_at v place ≡ Ok (strict_view_of (encoding x))
  there =
      ap (λ u. item_at u place) same ∙ ap (λ i. item_at (strict_view_of b) i) at
      ∙ held_at (strict_view_of b) before after x short is

  sized : IsSized x
  sized = sized_at before after x (items_sized true b (before ++ x ∷ after) short is)

  found : (item : View) → item_at v place ≡ Ok item → item ≡ strict_view_of (encoding x)
  found item given = let both = sym given ∙ there in cc

  -- there is an item at the place
  pub none_missing : (e : DecoderError) → item_at v place ≡ Err e → ⊥
  none_missing e missing = let both = sym missing ∙ there in cc

  hash_found : (item : View) → item ≡ strict_view_of (encoding x) → (r : Result Hash DecoderError) → IfOk r (λ h. hash_of item ≡ Ok h.0)
      → IfErr r (λ e. hash_of item ≡ Err (fault_of e)) → IsOkAnd r (λ h. IsHashOf h (bytes_alone x))
  hash_found item here (Ok h) given fault = hash_is (strict_view_of (encoding x)) x sized refl h (ap hash_of (sym here) ∙ given)
  hash_found item here (Err e) given fault =
      absurd (hash_is_there (strict_view_of (encoding x)) x sized refl (fault_of e) (ap hash_of (sym here) ∙ fault))

  -- the hash of the item at the place
  pub placed_hash : (item : View) → item_at v place ≡ Ok item → (r : Result Hash DecoderError) → IfOk r (λ h. hash_of item ≡ Ok h.0)
      → IfErr r (λ e. hash_of item ≡ Err (fault_of e)) → IsOkAnd r (λ h. IsHashOf h (bytes_alone x))
  placed_hash item given r ok fault = hash_found item (found item given) r ok fault

module _ (v : View) (b : List ℕ) (place : ℕ) (same : v ≡ strict_view_of b) (short : length b < 2 ^ 64) (before after xs : List Item)
    (at : place ≡ length before) (is : b ≡ encoding (list_of (before ++ list_of xs ∷ after))) where
  abbrev list_there : View
  list_there = strict_view_of (encoding (list_of xs))

  list_sized : IsSized (list_of xs)
  list_sized = sized v b place same short before after (list_of xs) at is

  module _ {V X : Type 0} (of : View → Result X Fault) (seen : V → X) (wanted : X) (held : of list_there ≡ Ok wanted) where
    list_found : (item : View) → item ≡ list_there → (r : Result V DecoderError) → IfOk r (λ x. of item ≡ Ok (seen x))
        → IfErr r (λ e. (of item ≡ Err (fault_of e)) ⊎ (e ≡ OutOfMemory)) → MatchResult r (λ x. seen x ≡ wanted) (λ e. e ≡ OutOfMemory)
    list_found item here (Ok x) given fault = let both = sym given ∙ ap of here ∙ held in cc
    list_found item here (Err e) given (inl bad) = let both = sym bad ∙ ap of here ∙ held in absurd (let no : ⊥ = cc in no)
    list_found item here (Err e) given (inr memory) = memory

    -- what is read of the list at the place
    placed_list : (item : View) → item_at v place ≡ Ok item → (r : Result V DecoderError) → IfOk r (λ x. of item ≡ Ok (seen x))
        → IfErr r (λ e. (of item ≡ Err (fault_of e)) ⊎ (e ≡ OutOfMemory)) → MatchResult r (λ x. seen x ≡ wanted) (λ e. e ≡ OutOfMemory)
    placed_list item given r ok fault = list_found item (found v b place same short before after (list_of xs) at is item given) r ok fault

  -- the hashes of the items of the list at the place
  pub placed_hashes : {V : Type 0} (items : V → List Hash) (item : View) → item_at v place ≡ Ok item → (r : Result V DecoderError)
      → IfOk r (λ hs. hashes_of item ≡ Ok (map (λ h. h.0) (items hs))) → IfErr r (λ e. (hashes_of item ≡ Err (fault_of e)) ⊎ (e ≡ OutOfMemory))
      → MatchResult r (λ hs. AreHashesOf (items hs) (map bytes_alone xs)) (λ e. e ≡ OutOfMemory)
  placed_hashes items =
      placed_list hashes_of (λ hs. map (λ (h : Hash). h.0) (items hs)) (map keccak256 (map bytes_alone xs)) (hashes_held list_there xs list_sized refl)

  -- the bytes of the items of the list at the place
  pub placed_values : {V : Type 0} (strings : V → List (List ℕ)) (item : View) → item_at v place ≡ Ok item → (r : Result V DecoderError)
      → IfOk r (λ vs. values_of item ≡ Ok (strings vs)) → IfErr r (λ e. (values_of item ≡ Err (fault_of e)) ⊎ (e ≡ OutOfMemory))
      → MatchResult r (λ vs. strings vs ≡ map bytes_alone xs) (λ e. e ≡ OutOfMemory)
  placed_values strings = placed_list values_of strings (map bytes_alone xs) (values_held list_there xs list_sized refl)
