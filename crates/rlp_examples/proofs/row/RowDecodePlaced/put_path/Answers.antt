use Rattle.rlp_examples.proofs.row.RowDecodePlaced.put_path.Goals as goal

-- the path is the path of the struct of its fields
pub returns : goal.returns
returns c = c.put_path_of.ensures
