-- How logs are written and read.
use Rattle.std.specs.Vec.{vec_items}
use Rattle.rlp.specs.Codec.{Codec, byte_string, end, field, list_type, struct_of}
use Rattle.rlp_headers.specs.declared.log.Log.{Log}
use Rattle.rlp_records.specs.{Address.address, Hash.hash}

-- section 4.4.1 of the yellow paper: (address, (topic, topic, ...), data)
abbrev pub log : Codec Log
log = struct_of (
    field (λ (l : Log). l.address) address (
    field (λ (l : Log). l.topics) (list_type vec_items hash) (
    field (λ (l : Log). l.data) (byte_string vec_items) end)))
