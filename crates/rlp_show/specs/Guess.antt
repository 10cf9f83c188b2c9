-- The kind of a record that isn't named.
use Rattle.std.specs.Prelude.{ℕ, ◌%◌, ◌==◌, ◌&&◌, ◌||◌, nat_le, nat_lt, if◌then◌else◌, List, [], ◌∷◌, drop, slice_index_or, Option, Some, None, Result, Ok, Err}
use Rattle.rlp.specs.{DecoderError.DecoderError, Format.Framing.map_ok, Views.View.View, Views.View.item_count, Views.View.item_views, Views.View.strict_view_of}
use Rattle.rlp_show.specs.{declared.guessing.TheConstants.{ADDRESS, HASH, LIST, LONG}, declared.kind.Kind.{Kind}}
use Rattle.rlp_show.specs.declared.kind.Kind.TheVariants.{AccessList, Account, Authorization, Block, Body, Header, Node, NodeRecord, Receipt, Transaction, Withdrawal}

-- the first byte of the first of some items; 0 if there is none
abbrev pub first_of : List View → ℕ
first_of [] = 0
first_of (v ∷ vs) = slice_index_or v.bytes 0 0

-- the first byte of the first item in the first of some items; 0 if there is no such item
abbrev pub inner_of : List View → ℕ
inner_of [] = 0
inner_of (v ∷ vs) = first_of (item_views v)

-- a list of this many items whose first item is a list, by the first byte of the first item in that list
abbrev pub lists_kind : ℕ → ℕ → Option Kind
lists_kind count inner =
    if inner == ADDRESS then Some AccessList
    else if count == 17 then Some Node
    else if (inner == HASH) && ((count == 3) || (count == 4)) then Some Block
    else if (count == 2) || (count == 3) then Some Body
    else None

-- a list whose first item is a string, by the first bytes of the second and the third item; a bloom is longer than a key
unfoldable pub strings_kind : ℕ → ℕ → ℕ → Option Kind
strings_kind count second third =
    if count == 2 then Some Node
    else if (count == 4) && (third == HASH) then Some Account
    else if (count == 4) && (third == ADDRESS) then Some Withdrawal
    else if (count == 4) && nat_lt third LONG then Some NodeRecord
    else if count == 4 then Some Receipt
    else if (count == 6) && (second == ADDRESS) then Some Authorization
    else if count == 9 then Some Transaction
    else if nat_le 15 count && (nat_le count 23 && (third == ADDRESS)) then Some Header
    else if count == 17 then Some Node
    else if nat_le 6 count && (count % 2 == 0) then Some NodeRecord
    else None

-- a list of these items
abbrev pub list_kind : List View → ℕ → Option Kind
list_kind vs count =
    if count == 0 then Some AccessList
    else if nat_le LIST (first_of vs) then lists_kind count (inner_of vs)
    else strings_kind count (first_of (drop 1 vs)) (first_of (drop 2 vs))

-- the kind of an envelope, by the number of items of its payload: four for a receipt
abbrev pub envelope_kind : Result ℕ DecoderError → Kind
envelope_kind (Ok count) = if count == 4 then Receipt else Transaction
envelope_kind (Err fault) = Transaction

-- the kind by the bytes of a view: an envelope begins with its type, and 0x80 is the empty trie
abbrev pub bytes_kind : View → List ℕ → Result (Option Kind) DecoderError
bytes_kind v [] = Ok None
bytes_kind v (first ∷ more) =
    if nat_lt first 0x80 then Ok (Some (envelope_kind (item_count (strict_view_of more))))
    else if first == 0x80 then Ok (Some Node)
    else if nat_le LIST first then map_ok (list_kind (item_views v)) (item_count v)
    else Ok None

-- the kind of a record; `None` if no rule applies, or why its items can't be counted
unfoldable pub guess : View → Result (Option Kind) DecoderError
guess v = bytes_kind v v.bytes
