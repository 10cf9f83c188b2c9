-- Nests are read back.
use Rattle.std.specs.{Prelude.false, Vec.vec_items, declared.alloc.Global.Global}
use Rattle.rlp.specs.{Form.{Form}, Laws.IsReadBack}
use Rattle.rlp.specs.Form as form
use Rattle.rlp_reading.proofs.{ListLaws.{list_back, list_told}, FieldLaws.{end_back, end_told, field_back, field_told}, StructLaws.{struct_back, struct_told}}
use Rattle.rlp_examples.specs.{declared.nest.Nest.{Nest}, Nest.{nest_form}}

-- If the values of a nest are read back, the nest is read back, strictly or not.
pub nest_read_back : {A : Type 0} (c : Form A) → IsReadBack c → IsReadBack (nest_form c)
nest_read_back {A} c law =
    let values = λ (n : Nest A). n.0 in
    let inner = form.list_type (vec_items {X = A} {Z = Global}) c in
    record {
      told = struct_told _ (field_told values inner form.end (list_told c vec_items law.told) end_told);
      back = struct_back _ false (field_back values inner form.end false (list_back c vec_items false law.back) (end_back false));
    }
