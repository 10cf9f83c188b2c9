-- The tree that rows describe, by what is written for one row after another.
use Rattle.std.proofs.Common.{◌≡◌, ◌≢◌, ℕ, zero, suc, ◌+◌, ◌<◌, ◌≤◌, ⊎_elim, ltb, ◌==◌, List, [], ◌∷◌, ◌++◌, length, refl, sym, ap, ◌∙◌, arith}
use Rattle.std.proofs.{Common.{append-nil, append_assoc, length-append, lt-ltb, le-ltb, eq-eqb, ne_eqb}, lemmas.Bool.{cases_eq, cond-true, cond-false}}
use Rattle.rlp_format.specs.Format.Encoding.{Item, string, list, Items, no_items, item_and, encoding, join_items, string_encoding, written_header}
use Rattle.rlp_c.specs.{declared.item.RlpItem.RlpItem, Rows.payload_at, Tree.{AreRows, DescribeTree, depth_behind, front_of, item_of, items_of, tree_of}}

-- ---- one row

pub front-string : (b : List ℕ) (r : RlpItem) (n : ℕ) → r.is_list ≡ 0 → front_of b r n ≡ string_encoding (payload_at b r)
front-string b r n is = cond-true (r.is_list == 0) _ _ (eq-eqb r.is_list 0 is)

pub front-list : (b : List ℕ) (r : RlpItem) (n : ℕ) → r.is_list ≢ 0 → front_of b r n ≡ written_header 0xc0 n
front-list b r n is = cond-false (r.is_list == 0) _ _ (ne_eqb r.is_list 0 is)

pub item-string : (b : List ℕ) (r : RlpItem) (xs : Items) → r.is_list ≡ 0 → item_of b r xs ≡ string (payload_at b r)
item-string b r xs is = cond-true (r.is_list == 0) _ _ (eq-eqb r.is_list 0 is)

pub item-list : (b : List ℕ) (r : RlpItem) (xs : Items) → r.is_list ≢ 0 → item_of b r xs ≡ list xs
item-list b r xs is = cond-false (r.is_list == 0) _ _ (ne_eqb r.is_list 0 is)

pub behind-string : (r : RlpItem) → r.is_list ≡ 0 → depth_behind r ≡ r.depth
behind-string r is = cond-true (r.is_list == 0) r.depth (r.depth + 1) (eq-eqb r.is_list 0 is)

pub behind-list : (r : RlpItem) → r.is_list ≢ 0 → depth_behind r ≡ r.depth + 1
behind-list r is = cond-false (r.is_list == 0) r.depth (r.depth + 1) (ne_eqb r.is_list 0 is)

-- a row behind this one is at most one deeper
pub behind-most : (r : RlpItem) → (r.depth ≤ depth_behind r) × (depth_behind r ≤ r.depth + 1)
behind-most r = grind (arith, behind-string, behind-list, cases_eq)

-- ---- the items of one depth

pub items_of-deeper : (b : List ℕ) (d : ℕ) (r : RlpItem) (rs : List RlpItem) → r.depth < d → items_of b d (r ∷ rs) ≡ no_items
unfolding items_of
items_of-deeper b d r rs less = cond-true (ltb r.depth d) _ _ (lt-ltb r.depth d less)

pub items_of-here : (b : List ℕ) (r : RlpItem) (rs : List RlpItem) → items_of b r.depth (r ∷ rs)
    ≡ item_and (item_of b r (items_of b (r.depth + 1) rs)) (items_of b r.depth rs)
unfolding items_of
items_of-here b r rs = grind (arith, cond-false, le-ltb, cond-true, eq-eqb)

pub items_of-behind : (b : List ℕ) (d : ℕ) (r : RlpItem) (rs : List RlpItem) → d < r.depth → items_of b d (r ∷ rs) ≡ items_of b d rs
unfolding items_of
items_of-behind b d r rs more = grind (arith, cond-false, le-ltb)

-- what is written for the items of one depth
abbrev pub level : List ℕ → ℕ → List RlpItem → List ℕ
level b d rows = join_items (items_of b d rows)

level-none : (b : List ℕ) (d : ℕ) → level b d [] ≡ []
unfolding items_of encoding
level-none b d = refl

pub level-deeper : (b : List ℕ) (d : ℕ) (r : RlpItem) (rs : List RlpItem) → r.depth < d → level b d (r ∷ rs) ≡ []
unfolding encoding
level-deeper b d r rs less = ap join_items (items_of-deeper b d r rs less)

pub level-here : (b : List ℕ) (r : RlpItem) (rs : List RlpItem) → level b r.depth (r ∷ rs)
    ≡ encoding (item_of b r (items_of b (r.depth + 1) rs)) ++ level b r.depth rs
unfolding encoding
level-here b r rs = ap join_items (items_of-here b r rs)

pub level-behind : (b : List ℕ) (d : ℕ) (r : RlpItem) (rs : List RlpItem) → d < r.depth → level b d (r ∷ rs) ≡ level b d rs
level-behind b d r rs more = ap join_items (items_of-behind b d r rs more)

-- no items are deeper than the rows reach
pub level-inside : (b : List ℕ) (limit len least most d : ℕ) (rows : List RlpItem) → AreRows limit len least most rows → most < d → level b d rows ≡ []
level-inside b limit len least most d [] fit low = level-none b d
level-inside b limit len least most d (r ∷ rs) (row, fit) low = level-deeper b d r rs (omega (arith, row.reached, low))

-- the encoding of a row's item: what is written for the row, and for the items in it
pub encoding-front : (b : List ℕ) (limit len : ℕ) (r : RlpItem) (rs : List RlpItem) → AreRows limit len 1 (depth_behind r) rs
    → encoding (item_of b r (items_of b (r.depth + 1) rs)) ≡ front_of b r (length (level b (r.depth + 1) rs)) ++ level b (r.depth + 1) rs
unfolding encoding
encoding-front b limit len r rs fit = grind (arith, level-inside, behind-string, item-string, append-nil, front-string, item-list, front-list, cases_eq)

-- ---- the rows one after another

-- what is written for rows
abbrev pub rows_encoding : List ℕ → List RlpItem → List ℕ
rows_encoding b [] = []
rows_encoding b (r ∷ rs) = front_of b r (length (level b (r.depth + 1) rs)) ++ rows_encoding b rs

-- what is written for the items of all depths below n, the deepest first
abbrev below : List ℕ → ℕ → List RlpItem → List ℕ
below b zero rows = []
below b (suc n) rows = level b n rows ++ below b n rows

below-none : (b : List ℕ) (n : ℕ) → below b n [] ≡ []
below-none b zero = refl
below-none b (suc n) = ap (λ s. s ++ below b n []) (level-none b n) ∙ below-none b n

below-behind : (b : List ℕ) (n : ℕ) (r : RlpItem) (rs : List RlpItem) → n ≤ r.depth → below b n (r ∷ rs) ≡ below b n rs
below-behind b zero r rs few = refl
below-behind b (suc n) r rs few = grind (arith, level-behind, below-behind b n r rs (omega (arith, few)))

below-down : (b : List ℕ) (n : ℕ) (r : RlpItem) (rs : List RlpItem) → r.depth < n → below b n (r ∷ rs) ≡ below b (suc r.depth) (r ∷ rs)
below-down b zero r rs less = absurd (omega (arith, less))
below-down b (suc n) r rs less =
    ⊎_elim
    (λ here. ap (λ k. below b (suc k) (r ∷ rs)) (sym here))
    (λ other.
    let less' : r.depth < n = omega (arith, less, other) in
    ap (λ s. s ++ below b n (r ∷ rs)) (level-deeper b n r rs less') ∙ below-down b n r rs less')
    (cases_eq r.depth n)

-- rows are written as their items, the deepest first
pub rows-below : (b : List ℕ) (limit len least most n : ℕ) (rows : List RlpItem) → AreRows limit len least most rows → most < n
    → rows_encoding b rows ≡ below b n rows
rows-below b limit len least most n [] fit low = sym (below-none b n)
rows-below b limit len least most n (r ∷ rs) (row, fit) low =
    let d = r.depth in
    let inner : List ℕ = level b (d + 1) rs in
    let front : List ℕ = front_of b r (length inner) in
    let one : suc d ≡ d + 1 = omega arith in
    let others = level b d rs ++ below b d rs in
    ap (λ s. front ++ s) (rows-below b limit len 1 (depth_behind r) (suc (suc d)) rs fit (omega (arith, behind-most r)))
    ∙ ap (λ k. front ++ (level b k rs ++ others)) one
    ∙ sym (append_assoc front inner others)
    ∙ sym (append_assoc (front ++ inner) (level b d rs) (below b d rs))
    ∙ ap (λ s. (s ++ level b d rs) ++ below b d rs) (sym (encoding-front b limit len r rs fit))
    ∙ ap (λ s. s ++ below b d rs) (sym (level-here b r rs))
    ∙ ap (λ s. level b d (r ∷ rs) ++ s) (sym (below-behind b d r rs (omega arith)))
    ∙ sym (below-down b n r rs (omega (arith, row.reached, low)))

-- the items of the first row's depth are no longer than all that is written
pub level-within : (b : List ℕ) (limit len least most : ℕ) (r : RlpItem) (rs : List RlpItem) → AreRows limit len least most (r ∷ rs)
    → length (level b r.depth (r ∷ rs)) ≤ length (rows_encoding b (r ∷ rs))
level-within b limit len least most r rs fit =
    omega (
      arith,
      ap length (rows-below b limit len least most (suc most) (r ∷ rs) fit (omega arith)),
      ap length (below-down b (suc most) r rs (omega (arith, fit.0.reached))),
      length-append (level b r.depth (r ∷ rs)) (below b r.depth (r ∷ rs)),
    )

-- rows inside a list have no items of depth 0
items_of-none : (b : List ℕ) (limit len most : ℕ) (rows : List RlpItem) → AreRows limit len 1 most rows → items_of b 0 rows ≡ no_items
unfolding items_of
items_of-none b limit len most [] fit = refl
items_of-none b limit len most (r ∷ rs) (row, fit) = grind (arith, items_of-behind, items_of-none b limit len (depth_behind r) rs fit)

same_tree : (b : List ℕ) (r : RlpItem) (rs : List RlpItem) → r.depth ≡ 0 → items_of b 0 rs ≡ no_items
    → items_of b 0 (r ∷ rs) ≡ item_and (tree_of b (r ∷ rs)) no_items
unfolding tree_of
same_tree b r rs top none = grind (arith, items_of-here)

one_item : (x : Item) → join_items (item_and x no_items) ++ [] ≡ encoding x
unfolding encoding
one_item x = append-nil (encoding x ++ []) ∙ append-nil (encoding x)

-- the rows of a tree are written as its encoding
pub rows-tree : (b : List ℕ) (limit : ℕ) (rows : List RlpItem) → DescribeTree limit b rows → rows_encoding b rows ≡ encoding (tree_of b rows)
rows-tree b limit [] tree = absurd (omega (arith, tree.some))
rows-tree b limit (r ∷ rs) tree =
    let (row, fit) = tree.fit in
    rows-below b limit (length b) 0 0 1 (r ∷ rs) tree.fit (omega arith)
    ∙ ap (λ xs. join_items xs ++ []) (same_tree b r rs (omega (arith, row.reached)) (items_of-none b limit (length b) (depth_behind r) rs fit))
    ∙ one_item (tree_of b (r ∷ rs))

-- the last rows are written as a part of all
pub rows-longer : (b : List ℕ) (xs ys : List RlpItem) → length (rows_encoding b ys) ≤ length (rows_encoding b (xs ++ ys))
rows-longer b [] ys = omega arith
rows-longer b (x ∷ xs) ys = grind (arith, length-append, rows-longer b xs ys)
