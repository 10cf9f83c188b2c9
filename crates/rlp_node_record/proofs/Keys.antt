-- What the bodies of node records use: why keys and bytes are refused, and that an encoding tells the record.
use Rattle.std.proofs.Common.{arith, ◌≡◌, ◌≤◌, ◌<◌, ℕ, List, length, sym, ap, ◌∙◌, Result, Ok, Err, ltb, if◌then◌else◌, codes, is_some}
use Rattle.std.proofs.lemmas.{Bool.{cond-true, cond-false, false_from_ne_true, lt-ltb}, Bool.Decides.nat_tests}
use Rattle.std.specs.Vec.{vec_items}
use Rattle.rlp.specs.{Format.Encoding.encoding, Views.View.strict_view_of, Form.{Fault, and_then, custom, is_too_big}}
use Rattle.rlp_records.proofs.Alone.{result_same}
use Rattle.rlp_node_record.specs.{NodeFields.node_fields, NodeKeys.{HasId, has_key, value_among}, NodeLaws.{key_found, keys_pass, read_short, read_tested, record_back, tested}}
use Rattle.rlp_node_record.specs.NodeRecord.{AreInOrder, AreRecordKeys, IsNodeRecord, keys_of, keys_rise, longest_record, read_record, test_fields, test_keys}
use Rattle.rlp_node_record.specs.{declared.node_fields.NodeFields.NodeFields, declared.node_fields.NodePair.NodePair}

-- keys that aren't in order
pub not_rising : (pairs : List NodePair) → ¬ AreInOrder pairs → test_keys (keys_of pairs) ≡ Err (custom (codes "keys are not in order"))
unfolding AreInOrder
not_rising pairs not = cond-false (keys_rise (keys_of pairs)) _ _ (false_from_ne_true (keys_rise (keys_of pairs)) not)

-- keys in order, without `id`
pub no_id : (pairs : List NodePair) → AreInOrder pairs → ¬ HasId pairs → test_keys (keys_of pairs) ≡ Err (custom (codes "key id is missing"))
unfolding AreInOrder HasId
no_id pairs rising not = grind (arith, key_found (codes "id") pairs)

-- fields with the keys of a record and too long an encoding
pub fields_long : (f : NodeFields) → AreRecordKeys (vec_items f.pairs) → longest_record < length (encoding (node_fields.item f)) → test_fields f ≡ Err is_too_big
fields_long f keys long = grind (arith, nat_tests, keys_pass (vec_items f.pairs) keys.0 keys.1)

-- bytes that are too many
pub read_long : (b : List ℕ) → longest_record < length b → (read_record b).result ≡ Err is_too_big
read_long b long = result_same (cond-true (ltb longest_record (length b)) _ _ (lt-ltb _ _ long))

-- fields that aren't read
pub read_faulty : (b : List ℕ) (e : Fault) → length b ≤ longest_record → (node_fields.reading.read (strict_view_of b)).result ≡ Err e
    → (read_record b).result ≡ Err e
read_faulty b e short bad = read_short b short ∙ ap (λ r. and_then r tested) bad

-- two records with the same encoding have the same fields
pub records_tell : (f g : NodeFields) → IsNodeRecord f → IsNodeRecord g → encoding (node_fields.item f) ≡ encoding (node_fields.item g)
    → node_fields.reading.seen f ≡ node_fields.reading.seen g
records_tell f g is other same =
    let both : (let r : Result node_fields.reading.M Fault = Ok (node_fields.reading.seen f) in r) ≡ Ok (node_fields.reading.seen g) =
    sym (record_back f is) ∙ ap (λ b. (read_record b).result) same ∙ record_back g other in
    cc

pub ruleset keys_tested = (not_rising, no_id, keys_pass)

-- for a body that reads the fields first
pub ruleset record_reading = (read_long, read_faulty, read_tested)
