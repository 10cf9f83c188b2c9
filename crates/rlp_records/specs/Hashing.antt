-- Hashes of records, and of the items that views begin with.
use Rattle.std.specs.Prelude.{◌≡◌, ℕ, List, Result, if◌then◌else◌, length, map}
use Rattle.rlp.specs.{Format.Framing.begins_as_list, Values.RawItem.view_frame, Views.View.View}
use Rattle.rlp_reading.specs.Form.{Fault, and_then, here, list_of_views, map_value, read_each, seen_fault, string_of}
use Rattle.rlp_keccak.specs.Keccak.{keccak256}
use Rattle.rlp_records.specs.declared.hash.Hash.{Hash}

-- h is the Keccak-256 hash of these bytes
abbrev pub IsHashOf : Hash → List ℕ → Type 0
IsHashOf h bytes = h.0 ≡ keccak256 bytes

-- the hashes are the Keccak-256 hashes of these byte strings, in order
abbrev pub AreHashesOf : List Hash → List (List ℕ) → Type 0
AreHashesOf hs strings = map (λ h. h.0) hs ≡ map keccak256 strings

-- the bytes of the item that a view begins with, by itself: all bytes of a list, and a string without its header
abbrev pub alone_of : View → Result (List ℕ) Fault
alone_of v = if begins_as_list v.bytes then seen_fault (view_frame v) else string_of v

-- the hash of the item that a view begins with, by itself
abbrev pub hash_of : View → Result (List ℕ) Fault
hash_of v = map_value keccak256 (alone_of v)

-- the hashes of the items of a view that is read as a list, in order, or the fault of the first item that has none
abbrev pub hashes_of : View → Result (List (List ℕ)) Fault
hashes_of v = and_then (list_of_views v) (λ vs. (read_each (λ item. here (hash_of item)) (length vs) vs).result)

-- the bytes of the items of a view that is read as a list, in order, each by itself, or the fault of the first item that has none
abbrev pub values_of : View → Result (List (List ℕ)) Fault
values_of v = and_then (list_of_views v) (λ vs. (read_each (λ item. here (alone_of item)) (length vs) vs).result)
