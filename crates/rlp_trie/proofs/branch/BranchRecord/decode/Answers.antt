use Rattle.rlp_trie.proofs.branch.BranchRecord.decode.Goals as goal

-- the struct is what its fields give
pub returns-in-Ok-decode_fields-clause-value : goal.returns-in-Ok-decode_fields-clause-value
returns-in-Ok-decode_fields-clause-value c = c.in-Ok-decode_fields.ensures.value

-- the fault is the fault of its fields
pub returns-in-Err-decode_fields-clause-fault : goal.returns-in-Err-decode_fields-clause-fault
returns-in-Err-decode_fields-clause-fault c = c.in-Err-decode_fields.ensures.fault
