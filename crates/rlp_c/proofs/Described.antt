-- The rows of a tree describe it.
use Rattle.std.proofs.Common.{◌≡◌, ℕ, ◌+◌, ◌-◌, ◌<◌, ◌≤◌, List, [], ◌++◌, length, take, drop, refl, sym, ap, ◌∙◌, subst, arith, true, false}
use Rattle.std.proofs.{Common.{append-nil, append_assoc, length-append, take_at, drop_at}, lemmas.Bool.cases_Bool}
use Rattle.rlp_format.specs.{Format.Encoding.{Item, string, list, Items, no_items, item_and, item_depth, items_depth, encoding, join_items, written_header}}
use Rattle.rlp_c.specs.{declared.item.RlpItem.RlpItem, Rows.{flat, flat_items, row_of}, Tree.{AreRows, DescribeTree, item_of, items_of, tree_of}}
use Rattle.rlp_reading.specs.Format.Flat.{flat_item, flat_rows, header_length}
use Rattle.rlp_reading.proofs.Trees.Needless.{high_written, low_again}
use Rattle.rlp_c.proofs.Trees.{item-list, item-string, items_of-behind, items_of-deeper, items_of-here}

-- bytes stand at a place in b
record IsAt (b : List ℕ) (place : ℕ) (e : List ℕ) : Type 0 where
  front : List ℕ
  back : List ℕ
  is : b ≡ front ++ (e ++ back)
  behind : length front ≡ place

at_first : (b : List ℕ) (place : ℕ) (d e : List ℕ) → IsAt b place (d ++ e) → IsAt b place d
at_first b place d e a = grind (arith, append_assoc)

at_second : (b : List ℕ) (place : ℕ) (d e : List ℕ) → IsAt b place (d ++ e) → IsAt b (place + length d) e
at_second b place d e a = record {
  front = a.front ++ d;
  back = a.back;
  is = a.is ∙ ap (λ s. a.front ++ s) (append_assoc d e a.back) ∙ sym (append_assoc a.front d (e ++ a.back));
  behind = length-append a.front d ∙ ap (λ n. n + length d) a.behind;
}

at_within : (b : List ℕ) (place : ℕ) (e : List ℕ) → IsAt b place e → place + length e ≤ length b
at_within b place e a = omega (arith, ap length a.is, length-append a.front (e ++ a.back), length-append e a.back, a.behind)

at_read : (b : List ℕ) (place : ℕ) (e : List ℕ) → IsAt b place e → take (length e) (drop place b) ≡ e
at_read b place e a =
    ap (λ s. take (length e) (drop place s)) a.is
    ∙ ap (take (length e)) (drop_at a.front (e ++ a.back) place a.behind)
    ∙ take_at e a.back (length e) refl

-- a payload and the header in front of it, if there is one
record IsFront (e payload : List ℕ) : Type 0 where
  header : List ℕ
  is : e ≡ header ++ payload

string_front : (s : List ℕ) → IsFront (encoding (string s)) s
string_front s = grind (arith, low_again, high_written, cases_Bool)

list_front : (xs : Items) → IsFront (encoding (list xs)) (join_items xs)
unfolding encoding
list_front xs = record { header = written_header 0xc0 (length (join_items xs)); is = refl }

-- the payload stands behind the header
payload_stands : (b : List ℕ) (place : ℕ) (e payload : List ℕ) → IsFront e payload → IsAt b place e → IsAt b (place + (length e - length payload)) payload
payload_stands b place e payload f a =
    subst (λ n. IsAt b (place + n) payload)
    (let len : length f.header ≡ length e - length payload = omega (arith, ap length f.is, length-append f.header payload) in len)
    (at_second b place f.header payload (subst (IsAt b place) f.is a))

payload_shorter : (e payload : List ℕ) → IsFront e payload → length payload ≤ length e
payload_shorter e payload f = omega (arith, ap length f.is, length-append f.header payload)

module _ (b : List ℕ) where
  -- the rows have no items deeper than this
  Stops : ℕ → List RlpItem → Type 0
  Stops d rows = (e : ℕ) → d < e → items_of b e rows ≡ no_items

  stops_later : (d : ℕ) (more : List RlpItem) → Stops d more → Stops (d + 1) more
  unfolding Stops
  stops_later d more stops e deep = stops e (omega (arith, deep))

  mutual
    unfolding flat_rows

    skipped : (e place d : ℕ) (x : Item) (more : List RlpItem) → e < d → items_of b e (flat place d x ++ more) ≡ items_of b e more
    skipped e place d (string s) more less = items_of-behind b e (row_of (flat_item place d false (header_length (string s) s) (length s))) more less
    skipped e place d (list xs) more less =
        items_of-behind b e (row_of (flat_item place d true (header_length (list xs) (join_items xs)) (length (join_items xs))))
        (flat_items (place + (length (encoding (list xs)) - length (join_items xs))) (d + 1) xs ++ more) less
        ∙ skipped_items e (place + (length (encoding (list xs)) - length (join_items xs))) (d + 1) xs more (omega (arith, less))

    skipped_items : (e place d : ℕ) (xs : Items) (more : List RlpItem) → e < d → items_of b e (flat_items place d xs ++ more) ≡ items_of b e more
    skipped_items e place d no_items more less = refl
    skipped_items e place d (item_and x xs) more less =
        ap (items_of b e) (append_assoc (flat place d x) (flat_items (place + length (encoding x)) d xs) more)
        ∙ skipped e place d x (flat_items (place + length (encoding x)) d xs ++ more) less
        ∙ skipped_items e (place + length (encoding x)) d xs more less

  stops_items : (d place : ℕ) (xs : Items) (more : List RlpItem) → Stops d more → Stops d (flat_items place d xs ++ more)
  unfolding Stops flat_rows
  stops_items d place no_items more stops e deep = stops e deep
  stops_items d place (item_and (string s) xs) more stops e deep = grind (arith, items_of-deeper)
  stops_items d place (item_and (list ys) xs) more stops e deep = grind (arith, items_of-deeper)

  mutual
    unfolding flat_rows encoding Stops

    -- the rows of an item give the item
    given_back : (place d : ℕ) (x : Item) (more : List RlpItem) → IsAt b place (encoding x) → Stops d more
        → items_of b d (flat place d x ++ more) ≡ item_and x (items_of b d more)
    given_back place d (string s) more a stops =
        let row = row_of (flat_item place d false (header_length (string s) s) (length s)) in
        items_of-here b row more
        ∙ ap (λ y. item_and y (items_of b d more)) (item-string b row (items_of b (d + 1) more) refl)
        ∙ ap (λ t. item_and (string t) (items_of b d more))
        (at_read b (place + (length (encoding (string s)) - length s)) s (payload_stands b place (encoding (string s)) s (string_front s) a))
    given_back place d (list xs) more a stops =
        let row = row_of (flat_item place d true (header_length (list xs) (join_items xs)) (length (join_items xs))) in
        let inner = place + (length (encoding (list xs)) - length (join_items xs)) in
        let rows = flat_items inner (d + 1) xs ++ more in
        items_of-here b row rows
        ∙ ap (λ y. item_and y (items_of b d rows)) (item-list b row (items_of b (d + 1) rows) (λ no. omega (arith, no)))
        ∙ ap (λ ys. item_and (list ys) (items_of b d rows))
        (all_given_back inner (d + 1) xs more (payload_stands b place (encoding (list xs)) (join_items xs) (list_front xs) a)
        (stops_later d more stops) (stops (d + 1) (omega arith)))
        ∙ ap (item_and (list xs)) (skipped_items d inner (d + 1) xs more (omega arith))

    all_given_back : (place d : ℕ) (xs : Items) (more : List RlpItem) → IsAt b place (join_items xs) → Stops d more → items_of b d more ≡ no_items
        → items_of b d (flat_items place d xs ++ more) ≡ xs
    all_given_back place d no_items more a stops none = none
    all_given_back place d (item_and x xs) more a stops none =
        let others = flat_items (place + length (encoding x)) d xs ++ more in
        ap (items_of b d) (append_assoc (flat place d x) (flat_items (place + length (encoding x)) d xs) more)
        ∙ given_back place d x others (at_first b place (encoding x) (join_items xs) a) (stops_items d (place + length (encoding x)) xs more stops)
        ∙ ap (item_and x) (all_given_back (place + length (encoding x)) d xs more (at_second b place (encoding x) (join_items xs) a) stops none)

  none_stops : (d : ℕ) → Stops d []
  unfolding Stops items_of
  none_stops d e deep = refl

-- the rows are in order

module _ (most : ℕ) (b : List ℕ) where
  -- rows that may follow one at this depth, or a deeper one
  Follow : ℕ → List RlpItem → Type 0
  Follow d more = (m : ℕ) → d ≤ m → AreRows most (length b) 1 m more

  mutual
    unfolding flat_rows encoding Follow

    in_order : (place d least deepest : ℕ) (x : Item) (more : List RlpItem) → IsAt b place (encoding x) → least ≤ d → d ≤ deepest → d + item_depth x ≤ most
        → Follow d more → AreRows most (length b) least deepest (flat place d x ++ more)
    in_order place d least deepest (string s) more a low high shallow follow =
        let within = at_within b place (encoding (string s)) a in
        let shorter = payload_shorter (encoding (string s)) s (string_front s) in (
          record { deep = low; reached = high; shallow = omega (arith, shallow); within = λ _. omega (arith, within, shorter) },
          follow d (omega arith),
        )
    in_order place d least deepest (list xs) more a low high shallow follow = (
      record { deep = low; reached = high; shallow = omega (arith, shallow); within = λ no. absurd (omega (arith, no)) },
      all_in_order (place + (length (encoding (list xs)) - length (join_items xs))) d (d + 1) xs more
          (payload_stands b place (encoding (list xs)) (join_items xs) (list_front xs) a) (omega arith) (omega (arith, shallow)) follow,
    )

    all_in_order : (place d deepest : ℕ) (xs : Items) (more : List RlpItem) → IsAt b place (join_items xs) → d + 1 ≤ deepest → d + 1 + items_depth xs ≤ most
        → Follow d more → AreRows most (length b) 1 deepest (flat_items place (d + 1) xs ++ more)
    all_in_order place d deepest no_items more a high shallow follow = follow deepest (omega (arith, high))
    all_in_order place d deepest (item_and x xs) more a high shallow follow =
        subst (AreRows most (length b) 1 deepest) (sym (append_assoc (flat place (d + 1) x) (flat_items (place + length (encoding x)) (d + 1) xs) more))
        (in_order place (d + 1) 1 deepest x (flat_items (place + length (encoding x)) (d + 1) xs ++ more)
        (at_first b place (encoding x) (join_items xs) a) (omega arith) high (omega (arith, shallow))
        (λ m low. all_in_order (place + length (encoding x)) d m xs more (at_second b place (encoding x) (join_items xs) a) low (omega (arith, shallow)) follow))

  none_follow : (d : ℕ) → Follow d []
  unfolding Follow
  none_follow d m low = tt

-- ---- the whole tree

whole_at : (b e : List ℕ) → b ≡ e → IsAt b 0 e
whole_at b e is = record { front = []; back = []; is = is ∙ sym (append-nil e); behind = refl }

rows_some : (x : Item) → 1 ≤ length (flat 0 0 x)
unfolding flat_rows
rows_some (string s) = omega arith
rows_some (list xs) = omega arith

-- the rows of the encoding of an item describe a tree
pub flat_describes : (most : ℕ) (b : List ℕ) (x : Item) → b ≡ encoding x → item_depth x ≤ most → DescribeTree most b (flat 0 0 x)
flat_describes most b x is deep = record {
  some = rows_some x;
  fit = subst (AreRows most (length b) 0 0) (append-nil (flat 0 0 x))
      (in_order most b 0 0 0 0 x [] (whole_at b (encoding x) is) (omega arith) (omega arith) (omega (arith, deep)) (none_follow most b 0));
}

first_item : (b : List ℕ) (x : Item) → items_of b 0 (flat 0 0 x) ≡ item_and (tree_of b (flat 0 0 x)) no_items
unfolding flat_rows tree_of items_of
first_item b (string s) = items_of-here b (row_of (flat_item 0 0 false (header_length (string s) s) (length s))) []
first_item b (list xs) =
    let row = row_of (flat_item 0 0 true (header_length (list xs) (join_items xs)) (length (join_items xs))) in
    let rows = flat_items (0 + (length (encoding (list xs)) - length (join_items xs))) 1 xs in
    items_of-here b row rows
    ∙ ap (item_and (item_of b row (items_of b 1 rows)))
    (ap (items_of b 0) (sym (append-nil rows)) ∙ skipped_items b 0 (0 + (length (encoding (list xs)) - length (join_items xs))) 1 xs [] (omega arith))

same_first : (x y : Item) → item_and x no_items ≡ item_and y no_items → x ≡ y
same_first x y same = cc

-- and this tree is the item
pub flat_tree : (b : List ℕ) (x : Item) → b ≡ encoding x → tree_of b (flat 0 0 x) ≡ x
unfolding items_of
flat_tree b x is =
    same_first (tree_of b (flat 0 0 x)) x (sym (first_item b x) ∙ ap (items_of b 0) (sym (append-nil (flat 0 0 x)))
    ∙ given_back b 0 0 x [] (whole_at b (encoding x) is) (none_stops b 0))
