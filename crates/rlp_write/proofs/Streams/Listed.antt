-- A list that is opened, and the values appended to it, or that is written at once: from its encoding, or since it has no items.
use Rattle.std.proofs.Common.{◌≡◌, ℕ, suc, ◌-◌, ◌||◌, Bool, true, false, IsTrue, List, [], ◌∷◌, ◌++◌, length, Some, refl, sym, ◌∙◌, ap, arith}
use Rattle.std.proofs.{Common.{append_assoc, append-nil}, lemmas.Bool.Decides.nat_tests}
use Rattle.rlp_format.specs.Format.Encoding.{big_endian, written_header, Item, string, list, list_of, is_list, encoding, join, join_items}
use Rattle.rlp_write.specs.Streams.Stream.{State, list_encoding, add, put, put_item, count, with_is_counted, with_list, with_list_of, add_all}
use Rattle.rlp_format.proofs.Lemmas.Encodings.{encoding_list}
use Rattle.rlp_write.proofs.Streams.Growth.{growth}

-- `b || true` is true
pub or_true : (b : Bool) → (b || true) ≡ true
or_true true = refl
or_true false = refl

-- the state s with one more open list, which awaits n items
abbrev pub in_list : State → ℕ → List ℕ → Bool → State
in_list s n p m =
    record { front = s.front; stack = record { inner = p; lists = record { awaits = Some n; outer = s.stack.inner } ∷ s.stack.lists }; is_counted = m }

-- the state s with a list of this payload
abbrev with_whole : State → List ℕ → State
with_whole s p = with_is_counted true (count 1 (put (list_encoding p) s))

-- the last item that a list awaits closes it
add_last : (x : Item) (s : State) (p : List ℕ) (m : Bool) → add x (in_list s 1 p m) ≡ with_whole s (p ++ encoding x)
add_last x s p m = rw (or_true (is_list x)) refl

-- an earlier item doesn't
pub add_more : (n : ℕ) (x : Item) (s : State) (p : List ℕ) (m : Bool)
    → add x (in_list s (suc (suc n)) p m) ≡ in_list s (suc n) (p ++ encoding x) (is_list x || false)
add_more n x s p m = grind (arith, nat_tests)

add_all_in : (x : Item) (xs : List Item) (s : State) (p : List ℕ) (m : Bool)
    → add_all (x ∷ xs) (in_list s (suc (length xs)) p m) ≡ with_whole s (p ++ join (x ∷ xs))
add_all_in x [] s p m = add_last x s p m ∙ rw (append-nil (encoding x)) refl
add_all_in x (y ∷ ys) s p m = grind (arith, add_more, append_assoc, add_all_in y ys s (p ++ encoding x) (is_list x || false))

-- a list of some items that is opened and filled is written as its item
pub list_filled : (x : Item) (xs : List Item) (s : State) → add_all (x ∷ xs) (with_list (Some (length (x ∷ xs))) s) ≡ put_item (list_of (x ∷ xs)) s
list_filled x xs s =
    add_all_in x xs s [] false ∙ ap (λ (b : List ℕ). with_is_counted true (count 1 (put b s))) (sym (encoding_list (x ∷ xs)))

-- with one item
pub one_filled : (x : Item) (s : State) → add x (with_list (Some 1) s) ≡ put_item (list_of (x ∷ [])) s
one_filled x s = list_filled x [] s

pub ruleset optional = (one_filled, growth)

-- the encoding of the list of no items
pub empty_list : encoding (list_of []) ≡ 0xc0 ∷ []
unfolding encoding join_items written_header big_endian
empty_list = refl

-- a list of no items
pub opened_none : (n : ℕ) (s : State) → n ≡ 0 → with_is_counted true (count 1 (put (0xc0 ∷ []) s)) ≡ with_list_of n s
opened_none n s e = grind (arith, empty_list)

-- ---- a list that is written from its encoding

-- it is written as its item
pub encoded_list_put : (x : Item) (b : List ℕ) (s : State) → IsTrue (is_list x) → b ≡ encoding x → with_is_counted true (count 1 (put b s)) ≡ put_item x s
encoded_list_put (string d) b s is whole = absurd (let no : ⊥ = cc in no)
encoded_list_put (list xs) b s is whole = ap (λ c. with_is_counted true (count 1 (put c s))) whole

pub ruleset encoded = (encoded_list_put)
