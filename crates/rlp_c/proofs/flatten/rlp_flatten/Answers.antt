use Rattle.rlp_c.proofs.Splitting.{faulty, flattened, lacking}
use Rattle.rlp_c.proofs.flatten.rlp_flatten.Goals as goal

pub returns-in-Err : goal.returns-in-Err
returns-in-Err c = faulty _ _ _ _ _ _ _ _ c.depth_within.ensures c.in-Err.ensures.fault c.in-Err.ensures.walked c.status_of_tree.ensures

pub returns-then-rows-out : goal.returns-then-rows-out
returns-then-rows-out c = flattened _ _ _ _ _ _ _ c.depth_within.ensures c.in-Ok.ensures.walked c.if-rows-out.true

pub returns-else-rows-out : goal.returns-else-rows-out
returns-else-rows-out c = lacking _ _ _ _ _ _ _ c.depth_within.ensures c.in-Ok.ensures.walked c.if-rows-out.false
