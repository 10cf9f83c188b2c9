use Rattle.std.proofs.Common.{arith, rules, length, inl, refl, ap, subst, ◌∙◌}
use Rattle.rlp_reading.proofs.Lemmas.Reading.{bytes_held}
use Rattle.rlp_node_record.specs.{NodeRecord.AreRecordKeys, NodeLaws.record_made}
use Rattle.rlp_node_record.proofs.Keys.{fields_long}
use Rattle.rlp_node_record.proofs.node_record.NodeRecord.new.Goals as goal

pub invariant_of-result : goal.invariant_of-result
invariant_of-result c = record_made c.as_slice-written.result.now c.args.fields c.in_ok-bytes.ensures.fits
    (c.as_slice-written.ensures ∙ c.in_ok-bytes.ensures.bytes) (subst AreRecordKeys c.as_slice.ensures.value c.in_ok-test_keys.ensures.keys)
    (bytes_held c.as_slice-written.result.now (search rules)) (omega arith)

pub returns-clause-value : goal.returns-clause-value
returns-clause-value c = (
  refl,
  record_made c.as_slice-written.result.now c.args.fields c.in_ok-bytes.ensures.fits
      (c.as_slice-written.ensures ∙ c.in_ok-bytes.ensures.bytes) (subst AreRecordKeys c.as_slice.ensures.value c.in_ok-test_keys.ensures.keys)
      (bytes_held c.as_slice-written.result.now (search rules)) (omega arith),
)

pub returns-then-written-gt-MAX_LEN-clause-fault : goal.returns-then-written-gt-MAX_LEN-clause-fault
returns-then-written-gt-MAX_LEN-clause-fault c =
    inl (fields_long c.args.fields (subst AreRecordKeys c.as_slice.ensures.value c.in_ok-test_keys.ensures.keys)
    (omega (arith, ap length (c.as_slice-written.ensures ∙ c.in_ok-bytes.ensures.bytes))))
