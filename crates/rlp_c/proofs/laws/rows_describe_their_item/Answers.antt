use Rattle.rlp_c.proofs.Described.{flat_describes, flat_tree}
use Rattle.rlp_c.proofs.laws.rows_describe_their_item.Goals as goal

pub returns-clause-describe : goal.returns-clause-describe
returns-clause-describe c = λ most x is deep. flat_describes most c.args.bytes.now x is deep

pub returns-clause-tree : goal.returns-clause-tree
returns-clause-tree c = λ x is. flat_tree c.args.bytes.now x is
