-- Which states a state grows to. Authors of an `Encodable` need the ruleset `growth`.
use Rattle.std.proofs.Common.{◌≡◌, ℕ, true, false, List, [], ◌∷◌, ◌++◌, Option, refl, sym, ap, ◌∙◌, subst, append-nil, append_assoc, arith}
use Rattle.rlp_format.specs.Format.Encoding.{Item, string, list, encoding}
use Rattle.rlp_write.specs.{Streams.Stream.{OpenList, State, put, with_list, put_item, count, add}, Streams.Growth.{AreSameAround, Stands, GrowsTo}}
use Rattle.rlp_write.specs.Streams.Growth.Stands.{here, within}

same_around : (ls : List (OpenList ℕ)) → AreSameAround ls ls
same_around [] = tt
same_around (l ∷ ls) = (refl, refl)

stands_more : (p x : List ℕ) (ls : List (OpenList ℕ)) → Stands p ls (p ++ x) ls
stands_more p x ls = here x ls (same_around ls)

stands_same : (p : List ℕ) (ls : List (OpenList ℕ)) → Stands p ls p ls
stands_same p ls = subst (λ (q : List ℕ). Stands p ls q ls) (append-nil p) (stands_more p [] ls)

-- a state that doesn't change
pub grows_same : (s t : State) → t ≡ s → GrowsTo s t
grows_same s t e = subst (λ (u : State). GrowsTo s u) (sym e) (record { front = refl; stands = stands_same s.stack.inner s.stack.lists })

-- more bytes in the innermost payload
pub grows_put : (s t : State) (x : List ℕ) → t ≡ put x s → GrowsTo s t
grows_put s t x e = subst (λ (u : State). GrowsTo s u) (sym e) (record { front = refl; stands = stands_more s.stack.inner x s.stack.lists })

-- one more open list, with bytes in it
pub grows_in_list : (s t : State) (l : OpenList ℕ) → t.front ≡ s.front → t.stack.lists ≡ l ∷ s.stack.lists → l.outer ≡ s.stack.inner → GrowsTo s t
grows_in_list s t l front lists outer =
    let inside : Stands s.stack.inner s.stack.lists l.outer s.stack.lists =
    subst (λ (q : List ℕ). Stands s.stack.inner s.stack.lists q s.stack.lists) (sym outer) (stands_same s.stack.inner s.stack.lists) in
    record {
      front = front;
      stands = subst (λ (ls : List (OpenList ℕ)). Stands s.stack.inner s.stack.lists t.stack.inner ls) (sym lists)
          (within t.stack.inner l s.stack.lists inside);
    }

-- one more open list
pub grows_with_list : (s t : State) (awaits : Option ℕ) → t ≡ with_list awaits s → GrowsTo s t
grows_with_list s t awaits e = grind (arith, grows_in_list)

same_around_trans : (ls ms ns : List (OpenList ℕ)) → AreSameAround ls ms → AreSameAround ms ns → AreSameAround ls ns
same_around_trans [] [] [] h k = tt
same_around_trans [] [] (n ∷ ns) h k = absurd k
same_around_trans [] (m ∷ ms) ns h k = absurd h
same_around_trans (l ∷ ls) [] ns h k = absurd h
same_around_trans (l ∷ ls) (m ∷ ms) [] h k = absurd k
same_around_trans (l ∷ ls) (m ∷ ms) (n ∷ ns) h k = (h.0 ∙ k.0, h.1 ∙ k.1)

-- a payload that is kept in another one is also kept if more bytes follow
stands_longer : (p : List ℕ) (ls : List (OpenList ℕ)) {q : List ℕ} {ms : List (OpenList ℕ)} → Stands p ls q ms
    → (more : List ℕ) (ns : List (OpenList ℕ)) → AreSameAround ms ns → Stands p ls (q ++ more) ns
stands_longer p ls (here first ms same) more ns k =
    subst (λ (q : List ℕ). Stands p ls q ns) (sym (append_assoc p first more)) (here (first ++ more) ns (same_around_trans ls ms ns same k))
stands_longer p ls (within q m ms st) more [] k = absurd k
stands_longer p ls (within q m ms st) more (n ∷ ns) k =
    within (q ++ more) n ns (subst (λ (zs : List (OpenList ℕ)). Stands p ls n.outer zs) k.1 (subst (λ (o : List ℕ). Stands p ls o ms) k.0 st))

stands_trans : (p : List ℕ) (ls : List (OpenList ℕ)) (q : List ℕ) (ms : List (OpenList ℕ)) → Stands p ls q ms → {r : List ℕ} {ns : List (OpenList ℕ)}
    → Stands q ms r ns → Stands p ls r ns
stands_trans p ls q ms st (here more ns same) = stands_longer p ls st more ns same
stands_trans p ls q ms st (within r n ns st2) = within r n ns (stands_trans p ls q ms st st2)

-- growth that follows growth
pub grows_trans : (s t u : State) → GrowsTo s t → GrowsTo t u → GrowsTo s u
grows_trans s t u g h = grind (arith, stands_trans)

-- a value that left `is_counted` false was a string
uncounted_put : (x : Item) (s t : State) → t ≡ put_item x s → t.is_counted ≡ false → t ≡ put (encoding x) s
uncounted_put (string b) s t is uncounted = is
uncounted_put (list xs) s t is uncounted = absurd (let both : true ≡ false = sym (ap (λ (u : State). u.is_counted) is) ∙ uncounted in let no : ⊥ = cc in no)

-- a stream in which `is_counted` is false after a value has grown by an item that was put
pub grows_uncounted : (x : Item) (s t u : State) → t ≡ put_item x s → t.is_counted ≡ false → u ≡ t → GrowsTo s u
grows_uncounted x s t u is uncounted e = grows_put s u (encoding x) (e ∙ uncounted_put x s t is uncounted)

-- a value that counts itself is added
pub counted_item : (x : Item) (s t : State) → s.is_counted ≡ false → t ≡ put_item x s → t.is_counted ≡ true → t ≡ add x s
counted_item (string b) s t start is counted = grind arith
counted_item (list xs) s t start is counted = is

-- a value that leaves `is_counted` false still has to be counted
pub item_counted : (x : Item) (s t u : State) → s.is_counted ≡ false → t ≡ put_item x s → t.is_counted ≡ false → u ≡ count 1 t → u ≡ add x s
item_counted (string b) s t u start is uncounted counts = grind arith
item_counted (list xs) s t u start is uncounted counts = grind arith

pub ruleset growth = (grows_same, grows_put, grows_with_list, grows_in_list, grows_trans)

-- with no list open, none is open after an item was put
pub item_finished : (x : Item) (s t : State) → t ≡ put_item x s → s.stack.lists ≡ [] → t.stack.lists ≡ []
item_finished (string b) s t is none = ap (λ (u : State). u.stack.lists) is ∙ none
item_finished (list xs) s t is none = ap (λ (u : State). u.stack.lists) is ∙ rw none refl

pub ruleset values = (grows_uncounted, counted_item, item_counted, item_finished)
