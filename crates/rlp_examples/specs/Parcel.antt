-- How parcels are written and read.
use Rattle.std.specs.Vec.{vec_items}
use Rattle.rlp.specs.Codec.{Codec, Fields, byte_string, field, list_type, number, optional, struct_of}
use Rattle.rlp_examples.specs.declared.parcel.Parcel.{Parcel}

-- a number, bytes, a list of numbers, and bytes that may be missing
abbrev pub parcel_fields : Fields Parcel
parcel_fields =
    field (λ (p : Parcel). p.number) (number 8) (
    field (λ (p : Parcel). p.address) (byte_string vec_items) (
    field (λ (p : Parcel). p.weights) (list_type vec_items (number 8)) (
    optional (λ (p : Parcel). p.note) (byte_string vec_items))))

-- the list of the fields
abbrev pub parcel : Codec Parcel
parcel = struct_of parcel_fields
