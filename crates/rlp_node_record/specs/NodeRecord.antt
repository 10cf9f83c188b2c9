-- Node records whose keys are in order, with `id` among them, and whose size is within the limit.
use Rattle.std.specs.Prelude.{ℕ, ◌≤◌, ◌&&◌, ⊤, nat_lt, if◌then◌else◌, Bool, true, IsTrue, List, [], ◌∷◌, length, map, codes, Result, Ok, Err}
use Rattle.std.specs.{Cmp.Lexicographic.slice_cmp, Ordering.{is_lt, nat_cmp}, Vec.vec_items}
use Rattle.rlp.specs.{Format.Encoding.{encoding, AreBytes}, Views.View.strict_view_of, Form.{Answer, Fault, and_then, custom, go_on, here, is_too_big, map_value}}
use Rattle.rlp_node_record.specs.{NodeFields.node_fields, NodeKeys.{HasId, has_key}, declared.node_fields.NodeFields.NodeFields, declared.node_fields.NodePair.{NodePair}}

-- the greatest number of bytes of a node record
abbrev pub longest_record : ℕ
longest_record = 300

-- whether each key is after the one before it, in the order of their bytes
abbrev pub keys_rise : List (List ℕ) → Bool
keys_rise [] = true
keys_rise (key ∷ []) = true
keys_rise (key ∷ next ∷ more) = is_lt (slice_cmp nat_cmp key next) && keys_rise (next ∷ more)

-- the keys of pairs
abbrev pub keys_of : List NodePair → List (List ℕ)
keys_of pairs = map (λ (p : NodePair). vec_items p.key) pairs

-- the keys are in order, each once
unfoldable pub AreInOrder : List NodePair → Type 0
AreInOrder pairs = IsTrue (keys_rise (keys_of pairs))

-- The fields are the fields of a node record: the keys are in order, `id` is one of them, and the encoding is made of bytes and is within the limit.
pub record IsNodeRecord (f : NodeFields) : Type 0 where
  pub fits : node_fields.Fits f
  pub rising : AreInOrder (vec_items f.pairs)
  pub identified : HasId (vec_items f.pairs)
  pub bytes : AreBytes (encoding (node_fields.item f))
  pub short : length (encoding (node_fields.item f)) ≤ longest_record

-- the keys are in order, and `id` is one of them
abbrev pub AreRecordKeys : List NodePair → Type 0
AreRecordKeys pairs = AreInOrder pairs × HasId pairs

-- the fault of keys that aren't the keys of a node record: the keys aren't in order, or they are in order and `id` isn't one of them
abbrev pub test_keys : List (List ℕ) → Result ⊤ Fault
test_keys keys =
    if keys_rise keys then (if has_key (codes "id") keys then Ok tt else Err (custom (codes "key id is missing")))
    else Err (custom (codes "keys are not in order"))

-- the fault of fields that aren't the fields of a node record: the keys have a fault, or the keys have no fault and the encoding is too long
abbrev pub test_fields : NodeFields → Result ⊤ Fault
test_fields f =
    and_then (test_keys (keys_of (vec_items f.pairs)))
    (λ t. if nat_lt longest_record (length (encoding (node_fields.item f))) then Err is_too_big else Ok t)

-- the keys of the fields that were read
abbrev pub keys_seen : node_fields.reading.M → List (List ℕ)
keys_seen m = map (λ p. p.0) m.1.1

-- What the bytes of an item give: the length is tested, the fields are read strictly, and then the keys are tested.
abbrev pub read_record : List ℕ → Answer node_fields.reading.M Fault
read_record b =
    if nat_lt longest_record (length b) then here (Err is_too_big)
    else go_on (node_fields.reading.read (strict_view_of b)) (λ m. here (map_value (λ t. m) (test_keys (keys_seen m))))
