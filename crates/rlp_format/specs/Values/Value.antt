-- Which item a value is.
use Rattle.std.specs.Prelude.{ℕ, ◌≡◌, ◌*◌, ◌^◌, ◌<◌, Bool, true, false, Option, Some, None, List, [], ◌∷◌, ◌++◌}
use Rattle.rlp_format.specs.Format.Encoding.{Item, string, list_of, big_endian}

-- a number is the string of its big-endian digits to the base 256
abbrev pub number_item : ℕ → Item
number_item n = string (big_endian n)

-- a bool as a number: 1 for true, 0 for false
abbrev pub bit : Bool → ℕ
bit false = 0
bit true = 1

-- `None` is the list of no items, and `Some` the list with only the value's item
abbrev pub option_item : {A : Type 0} → (A → Item) → Option A → Item
option_item item None = list_of []
option_item item (Some x) = list_of (item x ∷ [])

-- n has at most this number of bytes. In definitions and laws numbers have no greatest value, so each type says which numbers fit.
abbrev pub FitsBytes : ℕ → ℕ → Type 0
FitsBytes width n = n < 2 ^ (8 * width)

-- two values of a type are alike if their items are equal; the type says which item a value is
abbrev pub AreAlike : {T : Type 0} → (T → Item) → T → T → Type 0
AreAlike item v w = item v ≡ item w

-- the items of all values, one after another
abbrev pub all_items : {A : Type 0} → (A → List Item) → List A → List Item
all_items items [] = []
all_items items (x ∷ xs) = items x ++ all_items items xs

-- the items of a value, if it is present
abbrev pub items_if : {A : Type 0} → (A → List Item) → Option A → List Item
items_if items None = []
items_if items (Some x) = items x
