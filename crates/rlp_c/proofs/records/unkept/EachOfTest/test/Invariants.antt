use Rattle.std.proofs.Common.{◌≡◌, length}
use Rattle.rlp_reading.specs.Form.{and_then, list_of_views, read_each}
use Rattle.rlp_c.specs.Fields.{without_value}
use Rattle.rlp_c.proofs.records.unkept.EachOfTest.test.Given as goal

-- the items that are left decide
abbrev pub invariant-loop-item : goal.invariant-loop-item
invariant-loop-item g l =
    let r = g.T.Test.tested in
    without_value (and_then (list_of_views l.rlp) (λ vs. (read_each r.read (length vs) vs).result))
    ≡ without_value (read_each r.read (length l.initial.items.views) l.items.views).result

abbrev pub decreases-loop-item : goal.decreases-loop-item
decreases-loop-item g l = length l.items.views
