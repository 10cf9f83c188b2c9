-- A tree that is gone through from its last row on.
use Rattle.std.proofs.Common.{◌≡◌, ◌≢◌, ℕ, ◌+◌, ◌-◌, ◌^◌, ◌<◌, ◌≤◌, ⊎_elim, List, [], ◌∷◌, ◌++◌, length, take, drop, get_or, set, replicate, refl, sym, ap, ◌∙◌, subst, arith}
use Rattle.std.proofs.{Common.{append-nil, append_assoc, length-append}, lemmas.Bool.{cases_eq, cases_lt}}
use Rattle.std.proofs.lemmas.List.{drop_at, get_or-replicate, get_or-set_other, get_or-set_same, length-replicate, length-set, length-take-le, take-append-drop, take-append-le, take-take, take_all, take_more}
use Rattle.rlp_format.specs.Format.Encoding.{encoding}
use Rattle.rlp_c.specs.{declared.item.RlpItem.RlpItem, Tree.{AreRows, DescribeTree, depth_behind, front_of, item_of, items_of, tree_of}}
use Rattle.rlp_c.proofs.{Trees.{behind-most, encoding-front, level, level-behind, level-deeper, level-here, level-inside, level-within, rows-longer, rows-tree, rows_encoding}}

-- What is written for the last rows stands in front of this end, if the array reaches it, and all else is as it was. The sizes are those of the rows' items by depth.
pub record IsWriting (b : List ℕ) (items rest : List RlpItem) (sizes old : List ℕ) (end place : ℕ) (new : List ℕ) : Type 0 where
  pub done : List RlpItem
  pub all : rest ++ done ≡ items
  pub wide : length sizes ≡ 258
  pub by_depth : (e : ℕ) → e ≤ 257 → get_or sizes e 0 ≡ length (level b e done)
  pub at : place + length (rows_encoding b done) ≡ end
  pub written : end ≤ length old → new ≡ take place old ++ (rows_encoding b done ++ drop end old)

level-zero : (b : List ℕ) (e : ℕ) → length (level b e []) ≡ 0
unfolding items_of encoding
level-zero b e = refl

pub writing_none : (b : List ℕ) (items : List RlpItem) (old : List ℕ) (end : ℕ) → IsWriting b items items (replicate 258 0) old end end old
writing_none b items old end = record {
  done = [];
  all = append-nil items;
  wide = length-replicate {A = ℕ} 258 0;
  by_depth = λ e low. get_or-replicate 258 e 0 0 (omega (arith, low)) ∙ sym (level-zero b e);
  at = let same : end + 0 ≡ end = omega arith in same;
  written = λ room. sym (take-append-drop end old);
}

-- the last of some rows, and those before it
abbrev pub last_row : List RlpItem → RlpItem
last_row rest = get_or rest (length rest - 1) (record { offset = 0; header_len = 0; payload_len = 0; depth = 0; is_list = 0 })

abbrev pub rows_before : List RlpItem → List RlpItem
rows_before rest = take (length rest - 1) rest

pub last_is : (rest : List RlpItem) → 1 ≤ length rest → rest ≡ rows_before rest ++ last_row rest ∷ []
last_is rest some = grind (arith, take_all, take_more)

-- a row among rows, and those behind it
record IsAmong (limit len : ℕ) (r : RlpItem) (rs : List RlpItem) : Type 0 where
  least : ℕ
  most : ℕ
  fit : AreRows limit len least most (r ∷ rs)

among : (limit len least most : ℕ) (xs : List RlpItem) (r : RlpItem) (rs : List RlpItem) → AreRows limit len least most (xs ++ r ∷ rs) → IsAmong limit len r rs
among limit len least most [] r rs fit = record { least = least; most = most; fit = fit }
among limit len least most (x ∷ xs) r rs (row, fit) = among limit len 1 (depth_behind x) xs r rs fit

split_again : (items rest before done : List RlpItem) (r : RlpItem) → rest ++ done ≡ items → rest ≡ before ++ r ∷ [] → before ++ r ∷ done ≡ items
split_again items rest before done r all is = sym (append_assoc before (r ∷ []) done) ∙ ap (λ s. s ++ done) (sym is) ∙ all

among_all : (b : List ℕ) (items before done : List RlpItem) (r : RlpItem) → DescribeTree 256 b items → before ++ r ∷ done ≡ items → IsAmong 256 (length b) r done
among_all b items before done r tree all = grind (arith, among)

module _ (b : List ℕ) (items rest before : List RlpItem) (r : RlpItem) (sizes old : List ℕ) (end place : ℕ) (out : List ℕ)
    (tree : DescribeTree 256 b items) (w : IsWriting b items rest sizes old end place out) (is : rest ≡ before ++ r ∷ []) where
  abbrev all_again : before ++ r ∷ w.done ≡ items
  all_again = split_again items rest before w.done r w.all is

  abbrev here : IsAmong 256 (length b) r w.done
  here = among_all b items before w.done r tree all_again

  pub next_low : r.depth ≤ 256
  next_low = omega (arith, here.fit.0.shallow, behind-most r)

  pub next_within : r.is_list ≡ 0 → r.offset + r.header_len + r.payload_len ≤ length b
  next_within = here.fit.0.within

  -- what is written for the row itself
  abbrev front : List ℕ
  front = front_of b r (get_or sizes (r.depth + 1) 0)

  inside_is : get_or sizes (r.depth + 1) 0 ≡ length (level b (r.depth + 1) w.done)
  inside_is = w.by_depth (r.depth + 1) (omega (arith, next_low))

  with_front : front ++ rows_encoding b w.done ≡ rows_encoding b (r ∷ w.done)
  with_front = ap (λ n. front_of b r n ++ rows_encoding b w.done) inside_is

  longer : length front + length (rows_encoding b w.done) ≡ length (rows_encoding b (r ∷ w.done))
  longer = omega (arith, ap length with_front, length-append front (rows_encoding b w.done))

  -- the size of the items of its depth
  size_is : length front + get_or sizes (r.depth + 1) 0 + get_or sizes r.depth 0 ≡ length (level b r.depth (r ∷ w.done))
  size_is =
      let inner : List ℕ = level b (r.depth + 1) w.done in
      let written : List ℕ = front_of b r (length inner) in
      omega (
        arith,
        ap (λ n. length (front_of b r n)) inside_is,
        inside_is,
        w.by_depth r.depth (omega (arith, next_low)),
        ap length (level-here b r w.done),
        length-append (encoding (item_of b r (items_of b (r.depth + 1) w.done))) (level b r.depth w.done),
        ap length (encoding-front b 256 (length b) r w.done here.fit.1),
        length-append written inner,
      )

  bounded : length (rows_encoding b (r ∷ w.done)) ≤ length (encoding (tree_of b items))
  bounded =
      omega (arith, rows-longer b before (r ∷ w.done), ap (λ rows. length (rows_encoding b rows)) all_again, ap length (rows-tree b 256 items tree))

  -- the whole is too long if the row is
  pub too_long : place < length front → end < length (encoding (tree_of b items))
  too_long full = omega (arith, full, longer, bounded, w.at)

  pub size_fits : (start : ℕ) → start + length front ≡ place → end < 2 ^ 64
      → place - start + get_or sizes (r.depth + 1) 0 + get_or sizes r.depth 0 < 2 ^ 64
  size_fits start at small =
      omega (arith, at, small, size_is, longer, w.at, level-within b 256 (length b) here.least here.most r w.done here.fit)

  -- the sizes with the row
  abbrev put : ℕ → List ℕ
  put size = set (set sizes r.depth size) (r.depth + 1) 0

  other_size : (size e : ℕ) → e ≢ r.depth + 1 → e ≢ r.depth → get_or (put size) e 0 ≡ get_or sizes e 0
  other_size size e ne ne' = get_or-set_other (set sizes r.depth size) (r.depth + 1) e 0 0 ne ∙ get_or-set_other sizes r.depth e size 0 ne'

  none_inside : (e : ℕ) → r.depth + 1 < e → level b e w.done ≡ []
  none_inside e deep = level-inside b 256 (length b) 1 (depth_behind r) e w.done here.fit.1 (omega (arith, deep, behind-most r))

  by_depth_put : (size : ℕ) → size ≡ length front + get_or sizes (r.depth + 1) 0 + get_or sizes r.depth 0 → (e : ℕ) → e ≤ 257 → get_or (put size) e 0 ≡ length (level b e (r ∷ w.done))
  by_depth_put size sum e low = grind (arith, get_or-set_same, length-set, next_low, level-deeper, get_or-set_other, size_is, level, other_size, level-behind, none_inside, cases_lt, cases_eq)

  -- the row is written in front of the others
  written_one : (start : ℕ) (new : List ℕ) → start + length front ≡ place → (place ≤ length out → new ≡ take start out ++ (front ++ drop place out))
      → end ≤ length old → new ≡ take start old ++ (rows_encoding b (r ∷ w.done) ++ drop end old)
  written_one start new at put_front room = grind (arith, rows_encoding, length-take-le, length-append, take-append-le, take-take, drop_at, append_assoc, with_front)

  pub writing_one : (start size : ℕ) (new sizes' : List ℕ) → start + length front ≡ place
      → (place ≤ length out → new ≡ take start out ++ (front ++ drop place out))
      → size ≡ place - start + get_or sizes (r.depth + 1) 0 + get_or sizes r.depth 0 → sizes' ≡ put size → IsWriting b items before sizes' old end start new
  writing_one start size new sizes' at put_front sum is_put = record {
    done = r ∷ w.done;
    all = all_again;
    wide = ap length is_put ∙ length-set (set sizes r.depth size) (r.depth + 1) 0 ∙ length-set sizes r.depth size ∙ w.wide;
    by_depth = λ e low. ap (λ s. get_or s e 0) is_put ∙ by_depth_put size (omega (arith, sum, at)) e low;
    at = omega (arith, at, longer, w.at);
    written = written_one start new at put_front;
  }

-- the whole tree was written
module _ (b : List ℕ) (items : List RlpItem) (sizes old : List ℕ) (end place : ℕ) (new : List ℕ)
    (tree : DescribeTree 256 b items) (w : IsWriting b items [] sizes old end place new) where
  whole : rows_encoding b w.done ≡ encoding (tree_of b items)
  whole = ap (rows_encoding b) w.all ∙ rows-tree b 256 items tree

  pub all_placed : place + length (encoding (tree_of b items)) ≡ end
  all_placed = omega (arith, w.at, ap length whole)

  pub all_written : end ≤ length old → new ≡ take place old ++ (encoding (tree_of b items) ++ drop end old)
  all_written room = w.written room ∙ ap (λ e. take place old ++ (e ++ drop end old)) whole
