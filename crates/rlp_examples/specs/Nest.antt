-- How nests are written and read.
use Rattle.std.specs.{Vec.vec_items, declared.alloc.Global.Global}
use Rattle.rlp.specs.{Codec.{Codec, end, field, list_type, struct_of}, Form.{Form, Reading, group_before, list_reading, no_fields, one_field, struct_reading}}
use Rattle.rlp.specs.Form as form
use Rattle.rlp_examples.specs.declared.nest.Nest.{Nest}

-- the list of one list of values
abbrev pub nest : {A : Type 0} → Codec A → Codec (Nest A)
nest {A} c = struct_of (field (λ (n : Nest A). n.0) (list_type vec_items c) end)

-- how nests are read, for a type without known laws
abbrev pub nest_reading : {A : Type 0} → Reading A → Reading (Nest A)
nest_reading {A} r = struct_reading (group_before (λ (n : Nest A). n.0) (one_field (list_reading (vec_items {X = A} {Z = Global}) r)) no_fields)

-- the form of nests, without the laws
abbrev pub nest_form : {A : Type 0} → Form A → Form (Nest A)
nest_form {A} c = form.struct_of (form.field (λ (n : Nest A). n.0) (form.list_type vec_items c) form.end)
