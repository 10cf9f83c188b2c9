use Rattle.rlp_trie.proofs.branch.BranchRecord.put_path.Goals as goal

-- the path is that of the struct of its fields
pub returns : goal.returns
returns c = c.put_struct_path.ensures
