-- Items, and the bytes that an item is written as.
use Rattle.std.specs.Prelude.{ℕ, suc, max, Bool, true, false, List, [], ◌∷◌, zero, ◌≡◌, ◌+◌, ◌/◌, ◌%◌, ◌^◌, ◌<◌, ◌⊎◌, if◌then◌else◌, nat_le, ◌++◌, length, All}
use Rattle.std.specs.Prelude.{nat_lt, flat_map}

-- ---- items

-- An item is a byte string or a list of items. A type can't hold itself inside `List`, so a list holds `Items`. `list_of` makes a list of a `List Item`.
mutual
  pub data Item : Type 0 where
    string : List ℕ → Item
    list : Items → Item

  pub data Items : Type 0 where
    no_items : Items
    item_and : Item → Items → Items

-- the items inside an item
abbrev pub items_from : List Item → Items
items_from [] = no_items
items_from (x ∷ xs) = item_and x (items_from xs)

-- the items inside an item, as a `List Item`
abbrev pub listed : Items → List Item
listed no_items = []
listed (item_and x xs) = x ∷ listed xs

-- the item that is the list of these items
abbrev pub list_of : List Item → Item
list_of xs = list (items_from xs)

-- whether an item is a list
abbrev pub is_list : Item → Bool
is_list (string s) = false
is_list (list xs) = true

-- How deep lists nest. A string has depth 0. A list has a depth of 1 more than the deepest of its items, or 1 without items.
abbrev mutual
  pub item_depth : Item → ℕ
  item_depth (string s) = 0
  item_depth (list xs) = suc (items_depth xs)

  -- the depth of the deepest of the items, or 0
  pub items_depth : Items → ℕ
  items_depth no_items = 0
  items_depth (item_and x xs) = max (item_depth x) (items_depth xs)

-- ---- digits of numbers, and headers

-- bytes are below 256
abbrev pub AreBytes : List ℕ → Type 0
AreBytes b = All (λ byte. byte < 2 ^ 8) b

-- the last digits of n to the base 256, at most this number of them
abbrev pub big_endian_within : ℕ → ℕ → List ℕ
big_endian_within zero n = []
big_endian_within (suc turns) zero = []
big_endian_within (suc turns) (suc n) = big_endian_within turns (suc n / 256) ++ (suc n % 256) ∷ []

-- The big-endian digits of n to the base 256, with no leading zero; no digits for 0. The number of digits is at most n, which bounds the recursion.
unfoldable pub big_endian : ℕ → List ℕ
big_endian n = big_endian_within n n

-- The header of a payload of n bytes. A length up to 55 is added to the base, in one byte. A longer length follows the first byte, which says how many bytes the
-- length has.
unfoldable pub written_header : ℕ → ℕ → List ℕ
written_header base n = if nat_le n 55 then (base + n) ∷ [] else (base + 55 + length (big_endian n)) ∷ big_endian n

-- the base of the headers of strings is 0x80, the base of the headers of lists is 0xc0
abbrev pub IsBase : ℕ → Type 0
IsBase base = (base ≡ 0x80) ⊎ (base ≡ 0xc0)

-- ---- encodings

-- whether a string is one byte below 0x80
abbrev pub is_low_byte : List ℕ → Bool
is_low_byte [] = false
is_low_byte (byte ∷ []) = nat_lt byte 0x80
is_low_byte (byte ∷ next ∷ rest) = false

-- one byte below 0x80 is its own encoding; any other string has a header
abbrev pub string_encoding : List ℕ → List ℕ
string_encoding s = if is_low_byte s then s else written_header 0x80 (length s) ++ s

-- The encoding of an item: the encoding of a string, or a header and the joined encodings of a list's items.
unfoldable mutual
  pub encoding : Item → List ℕ
  encoding (string s) = string_encoding s
  encoding (list xs) = written_header 0xc0 (length (join_items xs)) ++ join_items xs

  -- the joined encodings of the items that an item holds
  pub join_items : Items → List ℕ
  join_items no_items = []
  join_items (item_and x xs) = encoding x ++ join_items xs

-- the encodings of the items, one after another
abbrev pub join : List Item → List ℕ
join xs = flat_map encoding xs

-- a slice can hold the item's encoding
abbrev pub IsSized : Item → Type 0
IsSized x = length (encoding x) < 2 ^ 64

-- the bytes b begin with s
abbrev pub BeginsWith : {A : Type 0} → List A → List A → Type 0
BeginsWith {A} b s = (rest : List A) × (b ≡ s ++ rest)
