-- How the fields of a node record are written and read.
use Rattle.std.specs.{Prelude.{◌∷◌, refl}, Vec.vec_items}
use Rattle.rlp.specs.{Format.Encoding.{Item, list_of}, Values.Value.{all_items, number_item}, Codec.{Codec, Fields, byte_string, end, field, groups, number, raw_item, struct_of}}
use Rattle.rlp_node_record.specs.{declared.node_fields.NodeFields.NodeFields, declared.node_fields.NodePair.NodePair}

-- the fields of a pair: its key, and its value, which is any item
abbrev pub pair_fields : Fields NodePair
pair_fields =
    field (λ (p : NodePair). p.key) (byte_string vec_items) (
    field (λ (p : NodePair). p.value) raw_item end)

-- EIP-778: [signature, seq, k, v, ...]; after the first two fields each pair adds two
abbrev pub parts_of_node : Fields NodeFields
parts_of_node =
    field (λ (f : NodeFields). f.signature) (byte_string vec_items) (
    field (λ (f : NodeFields). f.sequence) (number 8) (
    groups (λ (f : NodeFields). vec_items f.pairs) pair_fields refl refl))

-- the fields of a node record, as one list
abbrev pub node_fields : Codec NodeFields
node_fields = struct_of parts_of_node

-- EIP-778, what is signed: [seq, k, v, ...]
abbrev pub signed_item : NodeFields → Item
signed_item f = list_of (number_item f.sequence ∷ all_items pair_fields.items (vec_items f.pairs))
