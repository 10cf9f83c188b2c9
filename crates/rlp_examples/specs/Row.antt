-- How values of `Row` are written and read.
use Rattle.std.specs.{Prelude.refl, Vec.vec_items}
use Rattle.rlp.specs.Codec.{Codec, Fields, byte_array, byte_string, end, field, group, number, struct_of}
use Rattle.rlp_examples.specs.declared.row.Row.{Row}

-- columns 1 to 8
abbrev pub first_columns : Fields Row
first_columns =
    field (λ (r : Row). r.column_1) (number 8) (
    field (λ (r : Row). r.column_2) (byte_array 32) (
    field (λ (r : Row). r.column_3) (byte_string vec_items) (
    field (λ (r : Row). r.column_4) (byte_array 8) (
    field (λ (r : Row). r.column_5) (number 8) (
    field (λ (r : Row). r.column_6) (byte_array 32) (
    field (λ (r : Row). r.column_7) (byte_string vec_items) (
    field (λ (r : Row). r.column_8) (byte_array 8) end)))))))

-- columns 9 to 16
abbrev pub second_columns : Fields Row
second_columns =
    field (λ (r : Row). r.column_9) (number 8) (
    field (λ (r : Row). r.column_10) (byte_array 32) (
    field (λ (r : Row). r.column_11) (byte_string vec_items) (
    field (λ (r : Row). r.column_12) (byte_array 8) (
    field (λ (r : Row). r.column_13) (number 8) (
    field (λ (r : Row). r.column_14) (byte_array 32) (
    field (λ (r : Row). r.column_15) (byte_string vec_items) (
    field (λ (r : Row). r.column_16) (byte_array 8) end)))))))

-- columns 17 to 20
abbrev pub third_columns : Fields Row
third_columns =
    field (λ (r : Row). r.column_17) (number 8) (
    field (λ (r : Row). r.column_18) (byte_array 32) (
    field (λ (r : Row). r.column_19) (byte_string vec_items) (
    field (λ (r : Row). r.column_20) (byte_array 8) end)))

-- the fields, in order
abbrev pub row_fields : Fields Row
row_fields =
    group (λ r. r) first_columns refl (
    group (λ r. r) second_columns refl (
    third_columns))

-- the list of the fields
abbrev pub row : Codec Row
row = struct_of row_fields
