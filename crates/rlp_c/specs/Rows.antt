-- What C sees of items.
use Rattle.std.specs.{Prelude.{ℕ, ◌≡◌, ◌+◌, ◌<◌, ◌≤◌, ◌⊎◌, Bool, false, List, [], ◌∷◌, ◌++◌, length, take, drop, Option, Some, None, Result, Ok, Err, MatchResult}}
use Rattle.rlp_reading.specs.{declared.error.DecoderError.DecoderError, declared.header.PayloadInfo.PayloadInfo}
use Rattle.rlp_reading.specs.{Format.Framing.{framing, begins_as_list, items, IsCanonicalWithin}, declared.flat.FlatItem.FlatItem}
use Rattle.rlp_reading.specs.{declared.flat.TreeFault.TreeFault, Format.Flat.{flat_rows, flat_rows_inside}, Format.TreeFaults.tree_fault}
use Rattle.rlp_format.specs.{Values.Value.bit, Format.Encoding.{Item, Items, item_depth, encoding}}
use Rattle.rlp_c.specs.{Status.{fault_status, tree_status}, declared.item.RlpItem.RlpItem}

-- the row of an item with this header, at this place and depth
abbrev pub row : ℕ → ℕ → Bool → PayloadInfo → RlpItem
row place depth is_list p = record { offset = place; header_len = p.header_len; payload_len = p.value_len; depth = depth; is_list = bit is_list }

-- the row of the string that the bytes begin with: its header begins at the first byte, and no list is around it
abbrev pub IsRowOfString : List ℕ → RlpItem → Type 0
IsRowOfString b r = MatchResult (framing b) (λ p. r ≡ row 0 0 false p) (λ e. ⊥)

-- the payload that a row points at
abbrev pub payload_at : List ℕ → RlpItem → List ℕ
payload_at b r = take r.payload_len (drop (r.offset + r.header_len) b)

-- the row of a framed item, by its header
abbrev pub row_by : ℕ → ℕ → Bool → Result PayloadInfo DecoderError → RlpItem
row_by place depth is_list (Ok p) = row place depth is_list p
row_by place depth is_list (Err e) = record { offset = place; header_len = 0; payload_len = 0; depth = depth; is_list = bit is_list }

-- the rows of framed items, one after another from this place
unfoldable pub rows_at : ℕ → ℕ → List (List ℕ) → List RlpItem
rows_at place depth [] = []
rows_at place depth (f ∷ fs) = row_by place depth (begins_as_list f) (framing f) ∷ rows_at (place + length f) depth fs

-- the length of a header
abbrev pub header_length : Result PayloadInfo DecoderError → ℕ
header_length (Ok p) = p.header_len
header_length (Err e) = 0

-- The places of items f, one after another in a list b that begins at this place: `count` is the number of items. If the array has room for their rows, it begins
-- with the rows, and the elements behind the rows are as they were.
abbrev pub ArePlaced : ℕ → List ℕ → List (List ℕ) → List RlpItem → List RlpItem → ℕ → ℕ → Type 0
ArePlaced place b fs old new count status = (count ≡ length fs)
    × (((count ≤ length old) × (status ≡ 0) × (new ≡ rows_at (place + header_length (framing b)) 1 fs ++ drop count old))
    ⊎ ((length old < count) × (status ≡ 13)))

-- The answer for the items of one list, which begins at this place: the fault of b if it isn't exactly one list, and else the places of the items.
abbrev pub IsItemized : ℕ → List ℕ → List RlpItem → List RlpItem → ℕ → ℕ → ℕ → Option DecoderError → Type 0
IsItemized place b old new old_count count status (Some e) = (status ≡ fault_status e) × (count ≡ old_count)
IsItemized place b old new old_count count status None = ArePlaced place b (items b) old new count status

-- ---- a tree as rows, one for each item, in the order in which the items begin

-- the row of an item
abbrev pub row_of : FlatItem → RlpItem
row_of i = record { offset = i.place; header_len = i.header_len; payload_len = i.payload_len; depth = i.depth; is_list = bit i.is_list }

-- the rows of an item whose encoding begins at this place, inside `depth` lists
abbrev pub flat : ℕ → ℕ → Item → List RlpItem
flat place depth x = flat_rows row_of place depth x

-- the rows of the items that an item holds
abbrev pub flat_items : ℕ → ℕ → Items → List RlpItem
flat_items place depth xs = flat_rows_inside row_of place depth xs

-- The answer for bytes: the rows of the item whose encoding the bytes are, or the first fault of the bytes if they aren't the encoding of an item within the depth.
-- `count` is the number of rows. If the array has room for the rows, it begins with them, and the elements behind the rows are as they were.
pub data IsFlattened (most : ℕ) (b : List ℕ) (old new : List RlpItem) (old_count count status : ℕ) : Type 0 where
  filled : (x : Item) → b ≡ encoding x → item_depth x ≤ most → count ≡ length (flat 0 0 x) → count ≤ length old
      → new ≡ flat 0 0 x ++ drop count old → status ≡ 0 → IsFlattened most b old new old_count count status
  no_room : (x : Item) → b ≡ encoding x → item_depth x ≤ most → count ≡ length (flat 0 0 x) → length old < count
      → status ≡ 13 → IsFlattened most b old new old_count count status
  refused : (e : TreeFault) → tree_fault most b ≡ Some e → ¬ IsCanonicalWithin most b → count ≡ old_count → status ≡ tree_status e → IsFlattened most b old new old_count count status
