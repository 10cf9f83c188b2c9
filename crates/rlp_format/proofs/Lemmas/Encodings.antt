-- The forms of encodings.
use Rattle.std.proofs.Common.{◌≡◌, ℕ, ◌^◌, ◌<◌, ◌≤◌, ◌⊎◌, inl, inr, ⊎_elim, List, [], ◌∷◌, ◌++◌, length, refl, ap, ◌∙◌, arith, true}
use Rattle.std.proofs.{Common.{length-append}}
use Rattle.rlp_format.specs.Format.Encoding.{Item, string, list, Items, no_items, item_and, items_from, listed, list_of, written_header, IsBase}
use Rattle.rlp_format.specs.Format.Encoding.{encoding, join, join_items, string_encoding, is_low_byte, IsSized}
use Rattle.rlp_format.proofs.Lemmas.Headers.{shape}

-- bytes that are one byte below 0x80, or a header and as many bytes as it says
pub record IsLone (b : List ℕ) : Type 0 where
  pub byte : ℕ
  pub low : byte < 0x80
  pub is : b ≡ byte ∷ []

-- the header of a payload, and the payload
pub record IsWritten (base : ℕ) (payload b : List ℕ) : Type 0 where
  pub is_base : IsBase base
  pub small : length payload < 2 ^ 64
  pub is : b ≡ written_header base (length payload) ++ payload

-- an encoding is a low byte, or a header and a payload
abbrev pub IsForm : List ℕ → Type 0
IsForm b = IsLone b ⊎ ((base : ℕ) × (payload : List ℕ) × IsWritten base payload b)

-- a string that is its own encoding is one low byte
pub low_byte : (s : List ℕ) → is_low_byte s ≡ true → IsLone s
low_byte s e = grind arith

-- a payload is shorter than 2^64 where the whole is
pub small_payload : (base : ℕ) (payload b : List ℕ) → b ≡ written_header base (length payload) ++ payload → length b < 2 ^ 64 → length payload < 2 ^ 64
small_payload base payload b e h = omega (arith, ap length e, length-append (written_header base (length payload)) payload)

-- the encoding of a string is a low byte, or a header and the string
pub string_cases : (s : List ℕ) → length (string_encoding s) < 2 ^ 64 → (IsLone s × (string_encoding s ≡ s)) ⊎ IsWritten 0x80 s (string_encoding s)
string_cases s h = grind (arith, small_payload)

-- the encoding of a list is a header and the joined items
pub list_written : (xs : Items) → IsSized (list xs) → IsWritten 0xc0 (join_items xs) (encoding (list xs))
unfolding encoding
list_written xs h = record { is_base = inr refl; small = small_payload 0xc0 (join_items xs) (encoding (list xs)) refl h; is = refl }

-- what the encoding of an item can be
pub form : (x : Item) → IsSized x → IsForm (encoding x)
unfolding encoding
form (string s) h =
    ⊎_elim (λ (low, e). inl (record { byte = low.byte; low = low.low; is = e ∙ low.is })) (λ w. inr (0x80, s, w)) (string_cases s h)
form (list xs) h = inr (0xc0, join_items xs, list_written xs h)

-- a header begins with a byte of 0x80 or above
pub first_of_header : (base n : ℕ) → IsBase base → n < 2 ^ 64 → (first : ℕ) × (more : List ℕ) × (written_header base n ≡ first ∷ more) × (0x80 ≤ first)
first_of_header base n b small = let s = shape base n small in let parts = s.parts in (s.first, s.more, s.is, grind arith)

-- each of these items is sized
abbrev pub AllSized : Items → Type 0
AllSized no_items = Unit {0}
AllSized (item_and x xs) = IsSized x × AllSized xs

-- where the whole is shorter than 2^64, so is each part
pub parts_sized : (xs : Items) → length (join_items xs) < 2 ^ 64 → AllSized xs
unfolding encoding
parts_sized no_items h = tt
parts_sized (item_and x xs) h =
    let lengths = length-append (encoding x) (join_items xs) in
    (omega (arith, lengths), parts_sized xs (omega (arith, lengths)))

-- ---- lists of items

-- joined items, as a list
pub join_items_is : (xs : List Item) → join_items (items_from xs) ≡ join xs
unfolding encoding
join_items_is [] = refl
join_items_is (x ∷ xs) = ap (λ s. encoding x ++ s) (join_items_is xs)

-- the encoding of a list, by its items
pub encoding_list : (xs : List Item) → encoding (list_of xs) ≡ written_header 0xc0 (length (join xs)) ++ join xs
unfolding encoding
encoding_list xs = ap (λ s. written_header 0xc0 (length s) ++ s) (join_items_is xs)

-- items made from a list, as a list again
pub listed_from : (xs : List Item) → listed (items_from xs) ≡ xs
listed_from [] = refl
listed_from (x ∷ xs) = ap (λ ys. x ∷ ys) (listed_from xs)

-- a list of items, made to items again
pub items_from-listed : (xs : Items) → items_from (listed xs) ≡ xs
items_from-listed no_items = refl
items_from-listed (item_and x xs) = ap (item_and x) (items_from-listed xs)

-- an item whose encoding begins bytes of a slice is sized
pub front_sized : (x : Item) (b more : List ℕ) → length b < 2 ^ 64 → b ≡ encoding x ++ more → IsSized x
front_sized x b more fits is = omega (arith, fits, ap length is, length-append (encoding x) more)
