-- Node records are read back, and are read only from their encodings.
use Rattle.std.proofs.Common.{◌≡◌, ◌≤◌, ◌<◌, ◌^◌, ℕ, List, [], ◌∷◌, length, map, refl, sym, ap, ◌∙◌, subst, arith, Result, Ok, Err, ltb, ltb-false, le-ltb}
use Rattle.std.proofs.{Common.{◌||◌, Bool, true, false, if◌then◌else◌, codes, Option, Some, is_some}, lemmas.Bool.{cond-true, cond-false}}
use Rattle.std.specs.{Str.bytes_eq, Bool.⊤, Vec.vec_items}
use Rattle.rlp.specs.{Format.Encoding.{encoding, AreBytes}, Views.View.strict_view_of, Form.{Fault, and_then, custom, is_too_big, map_value}, Codec.{Codec, lawful}}
use Rattle.rlp_reading.specs.FirstItems.{item_type}
use Rattle.rlp_reading.proofs.{RawLaws.{ReadsItems, items_lawful}, ListLaws.{goes_on, is_mapped}}
use Rattle.rlp_records.proofs.Alone.{result_same}
use Rattle.rlp_node_record.specs.{NodeFields.node_fields, NodeKeys.{HasId, has_key, value_among}}
use Rattle.rlp_node_record.specs.NodeRecord.{AreInOrder, AreRecordKeys, IsNodeRecord, keys_of, keys_rise, keys_seen, longest_record, read_record, test_keys}
use Rattle.rlp_node_record.specs.{declared.node_fields.NodeFields.NodeFields, declared.node_fields.NodePair.NodePair}

-- ---- the test of the keys

-- a key has a value among pairs if it is one of their keys
pub key_found : (key : List ℕ) (pairs : List NodePair) → is_some (value_among key pairs) ≡ has_key key (keys_of pairs)
key_found key [] = refl
key_found key (pair ∷ pairs) = grind (arith, key_found key pairs)

-- the keys of a node record
pub keys_pass : (pairs : List NodePair) → AreInOrder pairs → HasId pairs → test_keys (keys_of pairs) ≡ Ok tt
unfolding AreInOrder HasId
keys_pass pairs rising identified = grind (arith, key_found (codes "id") pairs)

keys_passed : (pairs : List NodePair) (t : ⊤) → test_keys (keys_of pairs) ≡ Ok t → AreRecordKeys pairs
unfolding AreInOrder HasId
keys_passed pairs t is = grind (arith, key_found (codes "id") pairs)

-- the keys of a record that is seen
seen_keys : (pairs : List NodePair) → map (λ (p : List ℕ × (List ℕ × ⊤)). p.0) (map (λ (p : NodePair). (vec_items p.key, (p.value, tt))) pairs) ≡ keys_of pairs
seen_keys [] = refl
seen_keys (pair ∷ pairs) = ap (λ keys. vec_items pair.key ∷ keys) (seen_keys pairs)

record_keys : (f : NodeFields) → keys_seen (node_fields.reading.seen f) ≡ keys_of (vec_items f.pairs)
record_keys f = seen_keys (vec_items f.pairs)

-- ---- what bytes give

-- fields are the fields of a record, if their keys are the keys of a record and the encoding is short enough
pub record_made : (b : List ℕ) (f : NodeFields) → node_fields.Fits f → b ≡ encoding (node_fields.item f) → AreRecordKeys (vec_items f.pairs) → AreBytes b
    → length b ≤ longest_record → IsNodeRecord f
record_made b f fit whole keys bytes short = record {
  fits = fit;
  rising = keys.0;
  identified = keys.1;
  bytes = subst AreBytes whole bytes;
  short = (let size : length (encoding (node_fields.item f)) ≤ longest_record = omega (arith, short, ap length whole) in
      size);
}

-- what fields that were read give, by the test of their keys
abbrev pub tested : node_fields.reading.M → Result node_fields.reading.M Fault
tested m = map_value (λ t. m) (test_keys (keys_seen m))

pub read_short : (b : List ℕ) → length b ≤ longest_record → (read_record b).result ≡ and_then (node_fields.reading.read (strict_view_of b)).result tested
read_short b short = result_same (cond-false (ltb longest_record (length b)) _ _ (le-ltb _ _ short))

-- fields that are read, and the test of their keys
pub read_tested : (b : List ℕ) (f : NodeFields) (r : Result ⊤ Fault) → length b ≤ longest_record
    → (node_fields.reading.read (strict_view_of b)).result ≡ Ok (node_fields.reading.seen f) → test_keys (keys_of (vec_items f.pairs)) ≡ r
    → (read_record b).result ≡ map_value (λ t. node_fields.reading.seen f) r
read_tested b f r short given is =
    read_short b short ∙ ap (λ r. and_then r tested) given
    ∙ ap (λ r. map_value (λ t. node_fields.reading.seen f) r) (ap test_keys (record_keys f) ∙ is)

pub record_back : (f : NodeFields) → IsNodeRecord f → (read_record (encoding (node_fields.item f))).result ≡ Ok (node_fields.reading.seen f)
record_back f is =
    let b = encoding (node_fields.item f) in
    let few : length (encoding (node_fields.item f)) < 2 ^ 64 = omega (arith, is.short) in
    read_tested b f (Ok tt) is.short ((node_fields.reads_strictly.back true).back b f few is.fits refl) (keys_pass (vec_items f.pairs) is.rising is.identified)

only_by : (b : List ℕ) (f : NodeFields) (long : Bool) → AreBytes b → ltb longest_record (length b) ≡ long → (read_record b).result ≡ Ok (node_fields.reading.seen f)
    → IsNodeRecord f × (b ≡ encoding (node_fields.item f))
only_by b f true bytes long is =
    let r : (read_record b).result ≡ Err is_too_big = result_same (cond-true (ltb longest_record (length b)) _ _ long) in absurd (let no : ⊥ = cc in no)
only_by b f false bytes long is =
    let few : length b ≤ longest_record = ltb-false _ _ long in
    let g = goes_on (node_fields.reading.read (strict_view_of b)).result tested (node_fields.reading.seen f) (sym (read_short b few) ∙ is) in
    let m = is_mapped (test_keys (keys_seen g.value)) (λ t. g.value) (node_fields.reading.seen f) g.then in
    let h = node_fields.reads_strictly.exact.only b f bytes (omega (arith, few)) (g.is ∙ ap Ok m.then) in
    let passed : test_keys (keys_of (vec_items f.pairs)) ≡ Ok m.value =
    ap test_keys (sym (record_keys f) ∙ ap keys_seen (sym m.then)) ∙ m.is in
    (record_made b f h.0 h.1 (keys_passed (vec_items f.pairs) m.value passed) bytes few, h.1)

pub record_only : (b : List ℕ) (f : NodeFields) → AreBytes b → (read_record b).result ≡ Ok (node_fields.reading.seen f)
    → IsNodeRecord f × (b ≡ encoding (node_fields.item f))
record_only b f bytes is = only_by b f (ltb longest_record (length b)) bytes refl is

pub record_fits : (f g : NodeFields) → node_fields.reading.seen f ≡ node_fields.reading.seen g → IsNodeRecord f → IsNodeRecord g
record_fits f g same is = (record_only (encoding (node_fields.item f)) g is.bytes (record_back f is ∙ ap Ok same)).0

-- the bytes of a record are read back, and no other bytes are read
pub record_items : ReadsItems IsNodeRecord node_fields.item node_fields.reading.seen node_fields.reading.item read_record
record_items = record {
  back = λ f is sized. record_back f is;
  only = λ b f bytes short is. record_only b f bytes is;
  fits = record_fits;
  same = node_fields.reads_strictly.told.written;
}

-- A node record, seen as its fields: the list of the fields. It is read from the bytes of the first item, also from a lenient view.
abbrev pub node_record : Codec NodeFields
node_record =
    lawful (item_type IsNodeRecord node_fields.item node_fields.reading.seen node_fields.reading.item read_record node_fields.reading.takes_memory)
    (items_lawful _ _ _ _ _ node_fields.reading.takes_memory record_items)
