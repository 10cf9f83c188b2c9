use Rattle.std.proofs.Common.{Ok, Err, ap, inl, arith, ◌∙◌, sym}
use Rattle.rlp_reading.proofs.Lemmas.Reading.{bytes_held}
use Rattle.rlp.specs.Form.{fault_of}
use Rattle.rlp_node_record.specs.{NodeRecord.{keys_of, test_keys}, NodeLaws.{keys_pass, read_tested, record_only}}
use Rattle.rlp_node_record.proofs.node_record.record_fields.Goals as goal

pub returns-in-Ok-clause-value : goal.returns-in-Ok-clause-value
returns-in-Ok-clause-value c =
    let keys = c.in-Ok.ensures.keys in
    read_tested c.args.bytes.now c.in_ok-fields.fields (Ok tt) (omega arith) c.in_ok-fields.ensures.value
    (ap (λ pairs. test_keys (keys_of pairs)) (sym c.as_slice.ensures.value) ∙ keys_pass c.as_slice.result.now keys.0 keys.1)

pub returns-in-Ok-clause-record : goal.returns-in-Ok-clause-record
returns-in-Ok-clause-record c =
    let keys = c.in-Ok.ensures.keys in
    (record_only c.args.bytes.now c.in_ok-fields.fields (bytes_held c.args.bytes.now c.type_inv.bytes)
    (read_tested c.args.bytes.now c.in_ok-fields.fields (Ok tt) (omega arith) c.in_ok-fields.ensures.value
    (ap (λ pairs. test_keys (keys_of pairs)) (sym c.as_slice.ensures.value) ∙ keys_pass c.as_slice.result.now keys.0 keys.1))).0

pub returns-in-Err-clause-fault : goal.returns-in-Err-clause-fault
returns-in-Err-clause-fault c =
    inl (read_tested c.args.bytes.now c.in_ok-fields.fields (Err (fault_of c.in-Err.fault)) (omega arith) c.in_ok-fields.ensures.value
    (ap (λ pairs. test_keys (keys_of pairs)) (sym c.as_slice.ensures.value) ∙ c.in-Err.ensures.fault))
