-- The encodings of lists, and bytes that are exactly one item.
use Rattle.std.proofs.Common.{take_all, if◌then◌else◌, Option, Some, ◌≡◌, ℕ, zero, suc, ◌+◌, ◌^◌, ◌<◌, ◌≤◌, Bool, true, false, List, [], ◌∷◌, ◌++◌, length, take, drop, map, refl, sym, ap, ◌∙◌}
use Rattle.std.proofs.Common.{subst, arith, Ok, length-append, append_assoc, take_at, drop_at, inr, get_or, le_refl, length-drop}
use Rattle.std.proofs.{Common.None, lemmas.List.{drop_all, length-take}, lemmas.List.Elements.{All-nil, All-take, All-drop}, lemmas.Simd.map-map}
use Rattle.std.specs.List.{concat}
use Rattle.std.proofs.{lemmas.Grind.{common_steps}, lemmas.Bool.Decides.{nat_tests}}
use Rattle.rlp_format.specs.Format.Encoding.{IsBase, Item, list_of, written_header, AreBytes, encoding, join, IsSized, BeginsWith, list, listed, string, is_list}
use Rattle.rlp_format.proofs.{Lemmas.Encodings.{encoding_list, small_payload, front_sized, items_from-listed}, Lemmas.Headers.shape}
use Rattle.rlp_reading.specs.{Format.Framing.{written, IsFramed, value, split, begins_as_list, payload, items, rest, HasHeader, strict_fault}}
use Rattle.rlp_reading.proofs.{Lemmas.Reading.{header_unique}, Lemmas.Frames.{walk, value_is, split_join, join_is, encoding_item, framing_is}}

-- ---- the fault of a test

-- if there is no fault, the test is true and there is no other fault
pub passed : {E : Type 0} (k : Bool) (o : Option E) (e : E) → (if k then o else Some e) ≡ None → (k ≡ true) × (o ≡ None)
passed k o e is = grind arith

-- a header of a string doesn't begin as a list
pub string_header_first : (n : ℕ) (more : List ℕ) → n < 2 ^ 64 → begins_as_list (written_header 0x80 n ++ more) ≡ false
string_header_first n more small =
    let s = shape 0x80 n small in
    grind arith

-- a header of a list begins as a list
pub list_header_first : (n : ℕ) (more : List ℕ) → n < 2 ^ 64 → begins_as_list (written_header 0xc0 n ++ more) ≡ true
list_header_first n more small =
    let s = shape 0xc0 n small in
    grind arith

bases_apart : (n : ℕ) (x y : List ℕ) → n < 2 ^ 64 → written_header 0x80 n ++ x ≡ written_header 0xc0 n ++ y → ⊥
bases_apart n x y small e = let kinds : false ≡ true = sym (string_header_first n x small) ∙ ap begins_as_list e ∙ list_header_first n y small in cc

bases_same : (base1 base2 n : ℕ) (x y : List ℕ) → IsBase base1 → IsBase base2 → n < 2 ^ 64 → written_header base1 n ++ x ≡ written_header base2 n ++ y → base1 ≡ base2
bases_same base1 base2 n x y one two small e = grind (arith, bases_apart)

-- headers that begin the same bytes are equal
pub written_header_prefix_free : (base1 base2 m n : ℕ) (x y : List ℕ) → IsBase base1 → IsBase base2 → m < 2 ^ 64 → n < 2 ^ 64
    → written_header base1 m ++ x ≡ written_header base2 n ++ y → (base1 ≡ base2) × (m ≡ n)
written_header_prefix_free base1 base2 m n x y b1 b2 sm sn e =
    let same : m ≡ n = (header_unique (written_header base2 n ++ y) (length (written_header base1 m)) m (length (written_header base2 n)) n
    (subst (λ b. HasHeader b (length (written_header base1 m)) m) e (written base1 m x b1 sm)) (written base2 n y b2 sn)).1 in
    (bases_same base1 base2 n x y b1 b2 sn (ap (λ k. written_header base1 k ++ x) (sym same) ∙ e), same)

-- the bytes after a header
pub after_header : (base n : ℕ) (rest : List ℕ) → length rest ≡ n → take n (drop (length (written_header base n)) (written_header base n ++ rest)) ≡ rest
after_header base n rest len = ap (take n) (drop_at (written_header base n) rest (length (written_header base n)) refl) ∙ take_all n rest (omega arith)

list_value : (n : ℕ) (p more : List ℕ) → length p ≡ n → n < 2 ^ 64 → value (written_header 0xc0 n ++ (p ++ more)) ≡ Ok p
list_value n p more l small =
    let b : List ℕ = written_header 0xc0 n ++ (p ++ more) in
    let lengths : length (written_header 0xc0 n) + n ≤ length (written_header 0xc0 n ++ (p ++ more)) =
    omega (arith, length-append (written_header 0xc0 n) (p ++ more), length-append p more) in
    value_is (written_header 0xc0 n ++ (p ++ more)) (length (written_header 0xc0 n)) n (written 0xc0 n (p ++ more) (inr refl) small) lengths
    ∙ ap (λ s. Ok (take n s)) (drop_at (written_header 0xc0 n) (p ++ more) (length (written_header 0xc0 n)) refl)
    ∙ ap Ok (take_at p more n l)

-- bytes that begin with the encoding of a list begin as a list, and their value is the items'
pub list_shape : (xs : List Item) (b : List ℕ) → IsSized (list_of xs) → BeginsWith b (encoding (list_of xs)) → (begins_as_list b ≡ true)
    × (value b ≡ Ok (join xs))
list_shape xs b h begins =
    grind (arith, small_payload, encoding_list, append_assoc, list_header_first, list_value)

-- their payload
pub payload_of_list : (xs : List Item) (b : List ℕ) → IsSized (list_of xs) → BeginsWith b (encoding (list_of xs)) → payload b ≡ join xs
unfolding payload
payload_of_list xs b h begins = grind (arith, list_shape)

-- each item is shorter than a bound of all joined
pub sized_items : (xs : List Item) (n : ℕ) → length (join xs) < n → (k : ℕ) (d : Item) → k < length xs → length (encoding (get_or xs k d)) < n
sized_items [] n l k d h = absurd (omega arith)
sized_items (x ∷ xs) n l zero d h = omega (arith, length-append (encoding x) (join xs))
sized_items (x ∷ xs) n l (suc k) d h = sized_items xs n (omega (arith, length-append (encoding x) (join xs))) k d (omega arith)

-- its items are the encodings, and nothing is left
pub items_of_list : (xs : List Item) (b : List ℕ) → IsSized (list_of xs) → BeginsWith b (encoding (list_of xs)) → (items b ≡ map encoding xs) × (rest b ≡ [])
unfolding items rest
items_of_list xs b h begins =
    grind (arith, payload_of_list, small_payload, encoding_list, split_join, sized_items, join_is, drop_all)

-- ---- what follows the items isn't framed

-- the payload of bytes is bytes
pub payload_bytes : (b : List ℕ) → AreBytes b → AreBytes (payload b)
unfolding payload value
payload_bytes b bytes = grind (arith, nat_tests, common_steps, All-take, All-drop, All-nil)

split_left : (p : List ℕ) → AreBytes p → ¬ IsFramed (drop (length (concat (split p))) p)
unfolding split
split_left p bytes =
    let w = walk (length p) p bytes (le_refl (length p)) in
    grind (arith, drop_at)

-- what follows the last item isn't framed
pub rest_unframed : (b : List ℕ) → AreBytes b → ¬ IsFramed (rest b)
unfolding rest items
rest_unframed b bytes = split_left (payload b) (payload_bytes b bytes)

-- ---- the items of a slice are slices

pub payload_short : (b : List ℕ) → length (payload b) ≤ length b
unfolding payload value
payload_short b = grind (arith, length-take, length-drop)

-- ---- bytes that are exactly one item

pub whole_by : (b : List ℕ) (h n : ℕ) (xs : List Item) → begins_as_list b ≡ true → payload b ≡ join xs → HasHeader b h n → h + n ≡ length b
    → b ≡ encoding (list_of xs)
unfolding payload
whole_by b h n xs kind joined has equal =
    grind (arith, common_steps, string_header_first, value_is, encoding_list)

-- the encoding of an item has no strict fault
pub strict_fault-encoding : (x : Item) (b : List ℕ) → IsSized x → b ≡ encoding x → strict_fault b ≡ None
unfolding strict_fault
strict_fault-encoding x b sized is =
    let item = encoding_item x sized in
    grind (arith, framing_is)

-- ---- which kind of item bytes begin with

string_kind_front : (s b : List ℕ) → IsSized (string s) → BeginsWith b (encoding (string s)) → begins_as_list b ≡ false
unfolding encoding
string_kind_front s b h begins = grind (arith, common_steps, string_header_first)

-- bytes that begin with an encoding begin as a list if the item is a list
pub front_kind : (x : Item) (b : List ℕ) → IsSized x → BeginsWith b (encoding x) → begins_as_list b ≡ is_list x
front_kind (string s) b sized begins = string_kind_front s b sized begins
front_kind (list ys) b sized begins =
    let same : list ys ≡ list_of (listed ys) = sym (ap list (items_from-listed ys)) in
    (list_shape (listed ys) b (subst IsSized same sized) (subst (λ x. BeginsWith b (encoding x)) same begins)).0

-- bytes that begin with the encoding of a list begin as a list
pub list_first : (x : Item) (b : List ℕ) → length b < 2 ^ 64 → BeginsWith b (encoding x) → is_list x ≡ true → begins_as_list b ≡ true
list_first x b fits (more, is) kind = front_kind x b (front_sized x b more fits is) (more, is) ∙ kind

-- ---- the items of an encoded list of values

-- the items of an encoded list are the encodings of its values
pub list_items : {A : Type 0} (item : A → Item) (vs : List A) (b : List ℕ) → length b < 2 ^ 64 → BeginsWith b (encoding (list_of (map item vs)))
    → items b ≡ map (λ v. encoding (item v)) vs
list_items item vs b fits (more, is) = (items_of_list (map item vs) b (front_sized (list_of (map item vs)) b more fits is) (more, is)).0
    ∙ map-map encoding item vs
