-- An encoding is read as its item, so no encoding begins another.
use Rattle.std.proofs.Common.{◌≡◌, ◌≤◌, ℕ, zero, suc, max, true, List, [], ◌∷◌, ◌++◌, map, All, refl, sym, ap, ◌∙◌, subst, arith, append-nil, Err, leb-true}
use Rattle.std.proofs.lemmas.List.Elements.{recursion_from_All}
use Rattle.std.specs.List.{AllByRecursion}
use Rattle.rlp_format.specs.Format.Encoding.{Item, Items, string, list, no_items, item_and, listed, list_of, item_depth, items_depth, encoding, join, IsSized}
use Rattle.rlp_format.proofs.Lemmas.Encodings.{AllSized, items_from-listed, list_written, parts_sized}
use Rattle.rlp_reading.specs.{declared.error.DecoderError.DecoderError, declared.error.DecoderError.TheVariants.RlpExpectedToBeData}
use Rattle.rlp_reading.specs.{Format.Framing.{begins_as_list, read_string, split}, Values.RawItem.{item_by, item_within, string_or_none}}
use Rattle.rlp_reading.proofs.Lemmas.{Frames.{encoding_item, framed_same, split_join}, Strings.{string_list, string_only}, Views.{items_of_list, list_shape}}

-- a list isn't read as a string
list_unread : (b : List ℕ) → begins_as_list b ≡ true → (e : DecoderError) × (read_string b ≡ Err e)
list_unread [] begins = absurd (let no : ⊥ = cc in no)
list_unread (first ∷ rest) begins = (RlpExpectedToBeData, string_list first rest (leb-true 0xc0 first begins))

mutual
  unfolding item_within

  -- an encoding is read as its item
  pub item_within-encoding : (most : ℕ) (x : Item) → IsSized x → item_depth x ≤ most → item_within most (encoding x) ≡ x
  item_within-encoding zero (string s) fits deep = ap (λ r. string (string_or_none r))
      (string_only (encoding (string s)) s fits ([], sym (append-nil (encoding (string s)))))
  item_within-encoding (suc most) (string s) fits deep = ap (item_by (item_within most) (encoding (string s)))
      (string_only (encoding (string s)) s fits ([], sym (append-nil (encoding (string s)))))
  item_within-encoding zero (list ys) fits deep = absurd (omega (arith, deep))
  item_within-encoding (suc most) (list ys) fits deep =
      let same : list_of (listed ys) ≡ list ys = ap list (items_from-listed ys) in
      let begins : encoding (list ys) ≡ encoding (list_of (listed ys)) ++ [] = ap encoding (sym same) ∙ sym (append-nil (encoding (list_of (listed ys)))) in
      let sized : IsSized (list_of (listed ys)) = subst IsSized (sym same) fits in
      let (e, is) = list_unread (encoding (list ys)) (list_shape (listed ys) (encoding (list ys)) sized ([], begins)).0 in
      ap (item_by (item_within most) (encoding (list ys))) is
      ∙ ap (λ fs. list_of (map (item_within most) fs)) (items_of_list (listed ys) (encoding (list ys)) sized ([], begins)).0
      ∙ ap list_of (items_within-encodings most ys (parts_sized ys (list_written ys fits).small) (omega (arith, deep)))
      ∙ same

  items_within-encodings : (most : ℕ) (ys : Items) → AllSized ys → items_depth ys ≤ most → map (item_within most) (map encoding (listed ys)) ≡ listed ys
  items_within-encodings most no_items fits deep = refl
  items_within-encodings most (item_and y ys) fits deep =
      let first : item_within most (encoding y) ≡ y = item_within-encoding most y fits.0 (omega arith) in
      let others : map (item_within most) (map encoding (listed ys)) ≡ listed ys = items_within-encodings most ys fits.1 (omega arith) in
      ap (λ z. z ∷ map (item_within most) (map encoding (listed ys))) first ∙ ap (λ zs. y ∷ zs) others

-- items with the same encoding are equal
pub encoding_same : (x y : Item) → IsSized x → IsSized y → encoding x ≡ encoding y → x ≡ y
encoding_same x y hx hy e =
    sym (item_within-encoding (max (item_depth x) (item_depth y)) x hx (omega arith)) ∙ ap (item_within (max (item_depth x) (item_depth y))) e
    ∙ item_within-encoding (max (item_depth x) (item_depth y)) y hy (omega arith)

-- no encoding begins another
pub prefix_free : (x y : Item) (p q : List ℕ) → IsSized x → IsSized y → encoding x ++ p ≡ encoding y ++ q → x ≡ y
prefix_free x y p q hx hy e = encoding_same x y hx hy (framed_same (encoding x) (encoding y) p q (encoding_item x hx) (encoding_item y hy) e).0

encodings_same : (xs ys : List Item) → AllByRecursion IsSized xs → AllByRecursion IsSized ys → map encoding xs ≡ map encoding ys → xs ≡ ys
encodings_same [] [] a b e = refl
encodings_same (x ∷ xs) (y ∷ ys) (hx, a) (hy, b) e =
    let heads : x ≡ y = encoding_same x y hx hy (let first : encoding x ≡ encoding y = cc in first) in
    let tails : xs ≡ ys = encodings_same xs ys a b (let others : map encoding xs ≡ map encoding ys = cc in others) in
    cc
encodings_same xs ys a b e = absurd (let no : ⊥ = cc in no)

-- lists of items that are joined to the same bytes are equal
pub join_same : (xs ys : List Item) → All IsSized xs → All IsSized ys → join xs ≡ join ys → xs ≡ ys
join_same xs ys a b e =
    encodings_same xs ys (recursion_from_All IsSized xs a) (recursion_from_All IsSized ys b) (sym (split_join xs a) ∙ ap split e ∙ split_join ys b)
