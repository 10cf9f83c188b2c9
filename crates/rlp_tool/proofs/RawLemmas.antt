-- Raw bytes that are items.
use Rattle.std.proofs.Common.{◌≡◌, ℕ, ◌-◌, ◌^◌, ◌<◌, ◌≤◌, ◌↔◌, true, false, List, [], ◌∷◌, ◌++◌, length, map, All, refl, sym, ap, ◌∙◌, arith, IsTrue, Ok, pos_of_ne-zero}
use Rattle.std.proofs.{Common.nat_eq, lemmas.Slice.Eq.bytes_eq-Decides, lemmas.Bool.Decides.{nat_tests, Decides-eqb}, lemmas.Bool.{and_parts, le-leb, leb-true}}
use Rattle.std.proofs.{lemmas.List.append_cancel_left, lemmas.List.Elements.{recursion_from_All, All-from_recursion}}
use Rattle.std.specs.{Str.bytes_eq, List.{AllByRecursion, concat}}
use Rattle.rlp.specs.Format.{Encoding.{Item, encoding, item_depth, join, BeginsWith, IsSized}, Framing.{IsFramed, frame, framing, header, split, IsCanonicalWithin}}
use Rattle.rlp_tool.specs.RawItems.{AreRawItems, IsShallow, are_raw_items, deepest_raw_item, raw_item_of, raw_items}

-- ---- depths

-- the depth of an item that isn't too deep
depth_of : (x : Item) → IsShallow x → item_depth x ≤ deepest_raw_item
depth_of x shallow = leb-true (item_depth x) deepest_raw_item shallow

-- an item of such a depth isn't too deep
of_depth : (x : Item) → item_depth x ≤ deepest_raw_item → IsShallow x
of_depth x deep = le-leb (item_depth x) deepest_raw_item deep

-- ---- the rest of raw bytes

-- bytes that begin with an encoding are framed, and their frame is that encoding
abbrev pub FramesEncodings : List ℕ → Type 0
FramesEncodings b = (x : Item) → BeginsWith b (encoding x) → IsFramed b × (frame b ≡ Ok (encoding x))

-- an empty slice doesn't begin with an item
nothing_framed : (x : Item) → frame [] ≡ Ok (encoding x) → ⊥
unfolding frame framing header
nothing_framed x e = cc

none_by : (b : List ℕ) (xs : List Item) → FramesEncodings b → b ≡ [] → b ≡ join xs → length xs ≡ 0
none_by b [] frames none joined = refl
none_by b (x ∷ xs) frames none joined = grind (arith, nothing_framed)

-- an empty slice has no items
pub no_items : (b : List ℕ) (count : ℕ) → FramesEncodings b → b ≡ [] → AreRawItems b count ↔ (count ≡ 0)
no_items b count frames none = grind (arith, none_by)

stray_by : (b : List ℕ) (xs : List Item) → FramesEncodings b → 0 < length b → ¬ IsFramed b → b ≡ join xs → ⊥
stray_by b [] frames some unframed joined = omega (arith, ap length joined)
stray_by b (x ∷ xs) frames some unframed joined = unframed (frames x (join xs, joined)).0

-- bytes that don't begin with an item aren't items
pub stray_bytes : (b : List ℕ) (count : ℕ) → FramesEncodings b → 0 < length b → ¬ IsFramed b → AreRawItems b count → ⊥
stray_bytes b count frames some unframed is = stray_by b is.brought frames some unframed is.joined

first_by : (b item others : List ℕ) (count : ℕ) (xs : List Item) → FramesEncodings b → 0 < length b → frame b ≡ Ok item → b ≡ item ++ others → b ≡ join xs
    → length xs ≡ count → AllByRecursion IsShallow xs → (0 < count) × IsCanonicalWithin deepest_raw_item item × AreRawItems others (count - 1)
first_by b item others count [] frames some framed is joined counted shallow = absurd (omega (arith, ap length joined))
first_by b item others count (x ∷ xs) frames some framed is joined counted shallow =
    let other : frame b ≡ Ok (encoding x) = (frames x (join xs, joined)).1 in
    let same : item ≡ encoding x = cc in (
      omega (arith, counted),
      (x, same, depth_of x shallow.0),
      record {
        brought = xs;
        joined = append_cancel_left item others (join xs) (sym is ∙ joined ∙ ap (λ f. f ++ join xs) (sym same));
        counted = omega (arith, counted);
        shallow = All-from_recursion IsShallow xs shallow.1;
      },
    )

-- bytes that begin with an item are items if that one is canonical and not too deep, and the rest is one item fewer
pub first_item : (b item others : List ℕ) (count : ℕ) → FramesEncodings b → 0 < length b → frame b ≡ Ok item → b ≡ item ++ others
    → AreRawItems b count ↔ ((0 < count) × IsCanonicalWithin deepest_raw_item item × AreRawItems others (count - 1))
first_item b item others count frames some framed is = (
  λ a. first_by b item others count a.brought frames some framed is a.joined a.counted (recursion_from_All IsShallow a.brought a.shallow),
  λ (positive, (x, same, deep), rest). record {
    brought = x ∷ rest.brought;
    joined = is ∙ ap (λ f. f ++ others) same ∙ ap (λ s. encoding x ++ s) rest.joined;
    counted = omega (arith, rest.counted, positive);
    shallow = All-from_recursion IsShallow (x ∷ rest.brought) (of_depth x deep, recursion_from_All IsShallow rest.brought rest.shallow);
  },
)

never : false ≡ true → ⊥
never e = cc

-- if it isn't so, the result is `false`
pub refuted : (all : List ℕ) (total : ℕ) (b : List ℕ) (count : ℕ) → (AreRawItems all total ↔ AreRawItems b count) → (AreRawItems b count → ⊥)
    → IsTrue false ↔ AreRawItems all total
refuted all total b count walked none = (λ t. absurd (never t), λ a. absurd (none (walked.0 a)))

-- ---- tests of the walk

pub no_bytes : (b : List ℕ) → true ≡ nat_eq (length b) 0 → b ≡ []
no_bytes [] is = refl
no_bytes (c ∷ b) is = absurd (let no : ⊥ = grind (arith, nat_tests) in no)

pub not_empty : (b : List ℕ) → false ≡ nat_eq (length b) 0 → 0 < length b
not_empty b e = grind arith

pub not_true : {P : Type 0} → (P → IsTrue false) → P → ⊥
not_true from p = never (from p)

-- ---- raw bytes as the items of a call

-- what the laws of raw items say: the raw item of an encoding is its item, and no raw item is too deep
abbrev pub ReadsItems : Type 0
ReadsItems = (x : Item) → IsSized x → item_depth x ≤ deepest_raw_item → raw_item_of (encoding x) ≡ x

abbrev pub ReadsShallow : Type 0
ReadsShallow = (b : List ℕ) → item_depth (raw_item_of b) ≤ deepest_raw_item

-- what the law of joined encodings says: they are split into these encodings
abbrev pub Splits : Type 0
Splits = (xs : List Item) → All IsSized xs → (split (join xs) ≡ map encoding xs) × (concat (split (join xs)) ≡ join xs)

-- what the law of the test says: joined encodings pass it, and bytes that pass it are items
abbrev pub ItemsPass : Type 0
ItemsPass = (xs : List Item) → All IsSized xs → All IsShallow xs → IsTrue (are_raw_items (join xs) (length xs))

abbrev pub OnlyItemsPass : Type 0
OnlyItemsPass = (b : List ℕ) (count : ℕ) → IsTrue (are_raw_items b count) → AreRawItems b count

-- items that are written are read again
raw_items-join : ReadsItems → (xs : List Item) → AllByRecursion IsSized xs → AllByRecursion IsShallow xs → map raw_item_of (map encoding xs) ≡ xs
raw_items-join reads [] sized shallow = refl
raw_items-join reads (x ∷ xs) sized shallow =
    ap (λ y. y ∷ map raw_item_of (map encoding xs)) (reads x sized.0 (depth_of x shallow.0))
    ∙ ap (λ ys. x ∷ ys) (raw_items-join reads xs sized.1 shallow.1)

-- the joined encodings of items pass the test
pub are_raw_items-join : ReadsItems → Splits → ItemsPass
are_raw_items-join reads splits xs sized shallow =
    let again : raw_items (join xs) ≡ xs = ap (map raw_item_of) (splits xs sized).0
    ∙ raw_items-join reads xs (recursion_from_All IsSized xs sized) (recursion_from_All IsShallow xs shallow) in
    grind (arith, again, bytes_eq-Decides)

each_shallow : ReadsShallow → (fs : List (List ℕ)) → AllByRecursion IsShallow (map raw_item_of fs)
each_shallow reads [] = tt
each_shallow reads (f ∷ fs) = (of_depth (raw_item_of f) (reads f), each_shallow reads fs)

-- bytes that pass the test are items
pub are_raw_items-told : ReadsShallow → OnlyItemsPass
are_raw_items-told reads b count passed =
    let (same, counted) = and_parts (bytes_eq (join (raw_items b)) b) (nat_eq (length (raw_items b)) count) passed in
    record {
      brought = raw_items b;
      joined = sym ((bytes_eq-Decides (join (raw_items b)) b).0 same);
      counted = (Decides-eqb (length (raw_items b)) count).0 counted;
      shallow = All-from_recursion IsShallow (raw_items b) (each_shallow reads (split b));
    }

-- the joined encodings of items that a slice can hold pass the test
pub are_raw_items-passed : ItemsPass → ((xs : List Item) → length (join xs) < 2 ^ 64 → All IsSized xs) → (b : List ℕ) (count : ℕ) → length b < 2 ^ 64
    → AreRawItems b count → IsTrue (are_raw_items b count)
are_raw_items-passed pass sized b count fits a =
    let short : length (join a.brought) < 2 ^ 64 = omega (arith, fits, ap length a.joined) in
    let passed = pass a.brought (sized a.brought short) a.shallow in
    grind (arith, passed)

pub ruleset walked = (pos_of_ne-zero, first_item, no_bytes, no_items, not_empty, not_true, refuted, stray_bytes)
