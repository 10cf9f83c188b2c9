-- Clones of node records are seen as the records are.
use Rattle.std.proofs.Common.{◌≡◌, sym}
use Rattle.std.specs.{List.each_same, Vec.vec_items}
use Rattle.rlp_records.proofs.Clones.{clones_seen}
use Rattle.rlp_node_record.specs.{NodeFields.{node_fields, pair_fields}, NodeLaws.record_fits, NodeRecord.IsNodeRecord}
use Rattle.rlp_node_record.specs.{declared.node_fields.NodeFields.NodeFields, declared.node_fields.NodePair.NodePair}
use Rattle.rlp_node_record.specs.contracts.node_fields.NodeFieldsClone.TheImpl.{is_clone-value as fields_clone}
use Rattle.rlp_node_record.specs.contracts.node_fields.NodePairClone.TheImpl.{is_clone-value as pair_clone}

pair_same : (x y : NodePair) → pair_clone.it x y → pair_fields.reading.seen y ≡ pair_fields.reading.seen x
pair_same x y is =
    let key : vec_items y.key ≡ vec_items x.key = each_same _ _ is.0.0 in
    let value : y.value ≡ x.value = is.1 in
    cc

-- clones of fields are seen alike
pub fields_same : (f g : NodeFields) → fields_clone.it f g → node_fields.reading.seen g ≡ node_fields.reading.seen f
fields_same f g is =
    let signature : vec_items g.signature ≡ vec_items f.signature = each_same _ _ is.0.0 in
    let sequence : g.sequence ≡ f.sequence = is.1.0 in
    let pairs = clones_seen _ pair_fields.reading.seen pair_same (vec_items f.pairs) (vec_items g.pairs) is.1.1.0 in
    cc

-- and are those of a record, if the fields are
pub fields_stay : (f g : NodeFields) → fields_clone.it f g → IsNodeRecord f → IsNodeRecord g
fields_stay f g all is = record_fits f g (sym (fields_same f g all)) is

pub ruleset clones = (fields_same, fields_stay)
