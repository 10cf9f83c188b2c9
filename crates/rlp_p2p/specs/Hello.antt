-- How greetings are written and read.
use Rattle.std.specs.{Prelude.refl, Vec.vec_items}
use Rattle.rlp.specs.{Codec.{Codec, Fields, byte_array, byte_string, end, field, groups, list_type, newtype, number, struct_of}, Codec.raw_item}
use Rattle.rlp_p2p.specs.{declared.hello.NodeId.NodeId, declared.hello.Capability.Capability, declared.hello.FurtherItem.FurtherItem}
use Rattle.rlp_p2p.specs.declared.hello.Hello.{Hello}

-- the string of its 64 bytes
abbrev pub node_id : Codec NodeId
node_id = newtype (λ (n : NodeId). n.0) (byte_array 64)

-- [cap: B, capVersion: P] of RLPx: the fields, in order
abbrev pub capability : Codec Capability
capability = struct_of (
    field (λ (c : Capability). c.name) (byte_string vec_items) (
    field (λ (c : Capability). c.version) (number 8) end))

-- one item of any kind
abbrev pub further_fields : Fields FurtherItem
further_fields = field (λ (f : FurtherItem). f.item) raw_item end

-- [protocolVersion: P, clientId: B, capabilities, listenPort: P, nodeKey: B_64, ...] of RLPx: the fields, in order, and then any items
abbrev pub hello : Codec Hello
hello = struct_of (
    field (λ (h : Hello). h.protocol_version) (number 8) (
    field (λ (h : Hello). h.client_id) (byte_string vec_items) (
    field (λ (h : Hello). h.capabilities) (list_type vec_items capability) (
    field (λ (h : Hello). h.listen_port) (number 8) (
    field (λ (h : Hello). h.node_id) node_id (
    groups (λ (h : Hello). vec_items h.further) further_fields refl refl))))))
