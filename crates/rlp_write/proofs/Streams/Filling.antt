-- A list that is opened, and filled item by item. Authors of an `Encodable` that is a list need these lemmas.
use Rattle.std.proofs.Common.{◌≡◌, ℕ, zero, suc, ◌+◌, ◌-◌, ◌<◌, ◌||◌, Bool, false, List, [], ◌∷◌, ◌++◌, length, take, get_or, Some}
use Rattle.std.proofs.{Common.{refl, sym, ◌∙◌, ap, subst, arith, append_assoc, append-nil}, lemmas.List.Elements.All-more}
use Rattle.std.specs.List.{All}
use Rattle.rlp_format.specs.Format.Encoding.{written_header, Item, list, Items, no_items, item_and, list_of, is_list, encoding, join_items}
use Rattle.rlp_write.specs.Streams.{Stream.{State, put_item, add_all, with_list_of}, Growth.GrowsTo}
use Rattle.rlp_write.proofs.Streams.Listed.{in_list, list_filled, add_more, or_true}
use Rattle.rlp_write.proofs.Streams.Growth.{grows_same, grows_put, grows_with_list, grows_in_list, grows_trans}

-- a list that awaits more than the items that were added stays open
stays_open : (xs : List Item) (n : ℕ) (s : State) (p : List ℕ) (m : Bool) → length xs < n → GrowsTo s (add_all xs (in_list s n p m))
stays_open [] n s p m few = grows_in_list s (in_list s n p m) (record { awaits = Some n; outer = s.stack.inner }) refl refl refl
stays_open (x ∷ xs) zero s p m few = absurd (omega arith)
stays_open (x ∷ xs) (suc zero) s p m few = absurd (omega arith)
stays_open (x ∷ xs) (suc (suc n)) s p m few = grind (arith, add_more, stays_open xs (suc n) s (p ++ encoding x) (is_list x || false) (omega arith))

-- if a call is refused before the list is full, the state has grown from the state before the list
pub grows_filling : (xs : List Item) (n : ℕ) (s t : State) → length xs < n → t ≡ add_all xs (with_list_of n s) → GrowsTo s t
grows_filling xs zero s t few is = absurd (omega arith)
grows_filling xs (suc n) s t few is = subst (λ (u : State). GrowsTo s u) (sym is) (stays_open xs (suc n) s [] false few)

-- a full list is written as its item
pub filled_list : (xs : List Item) (n : ℕ) (s t : State) → length xs ≡ n → t ≡ add_all xs (with_list_of n s) → t ≡ put_item (list_of xs) s
filled_list [] n s t e is = is ∙ ap (λ k. with_list_of k s) (sym e)
filled_list (x ∷ xs) n s t e is = is ∙ ap (λ k. add_all (x ∷ xs) (with_list_of k s)) (sym e) ∙ list_filled x xs s

-- one more value of its type
pub all_more : {A : Type 0} (P : A → Type 0) (values : List A) (i : ℕ) (x d : A) → i < length values → x ≡ get_or values i d → All P (take i values) → P x
    → All P (take (i + 1) values)
all_more P values i x d inside is fit one = All-more P values i d inside fit (subst P is one)

-- ---- the items of a list, appended one by one

-- the encoding of a list is the header of its joined items, and then the joined items
pub encoding_of_list : (xs : Items) → encoding (list xs) ≡ written_header 0xc0 (length (join_items xs)) ++ join_items xs
unfolding encoding
encoding_of_list xs = refl

-- the join of no items is no bytes
pub join_none : join_items no_items ≡ []
unfolding join_items
join_none = refl

-- the join of an item and others is its encoding and then their join
pub join_and : (x : Item) (xs : Items) → join_items (item_and x xs) ≡ encoding x ++ join_items xs
unfolding join_items
join_and x xs = refl

-- for authors of an `Encodable` that is a list
pub ruleset filling = (
  grows_same,
  grows_put,
  grows_with_list,
  grows_in_list,
  grows_trans,
  encoding_of_list,
  join_none,
  join_and,
  or_true,
  append_assoc,
  append-nil,
)
