use Rattle.std.proofs.Common.{arith, pos_of_ne-zero, rules}
use Rattle.rlp_tool.proofs.{RawLemmas.{first_item, not_empty, not_true, refuted}, building.raw_items_are_canonical.Goals.{then-awaited-eq0-via-then-awaited-eq0}}
use Rattle.rlp_tool.proofs.building.raw_items_are_canonical.Goals.{then-awaited-eq0-via-else-awaited-eq0+then-not-is_canonical}
use Rattle.rlp_tool.proofs.building.raw_items_are_canonical.Goals as goal

pub returns-then-awaited-eq0 : goal.returns-then-awaited-eq0
returns-then-awaited-eq0 c =
    let first = first_item _ _ c.in-Some.others.now c.loop-rest.awaited c.encoding_is_framed.ensures (not_empty _ c.loop-rest-test.ensures)
    c.in-Some.ensures.0 c.in-Some.ensures.1 in
    refuted _ _ _ _ c.loop-rest.invariant (λ a.
    let (some, canonical, others) = first.0 a in
    elim c.then-awaited-eq0.branch [
      | then-awaited-eq0-via-then-awaited-eq0 w ↦ omega (arith, some, w.if-awaited-eq0.true)
      | then-awaited-eq0-via-else-awaited-eq0+then-not-is_canonical w ↦ not_true (rw w.new.ensures at w.if-not-is_canonical.ensures.1) canonical
    ])

pub loop-rest-preserved : goal.loop-rest-preserved
loop-rest-preserved c =
    let first = first_item _ _ c.in-Some.others.now c.loop-rest.awaited c.encoding_is_framed.ensures (not_empty _ c.loop-rest-test.ensures)
    c.in-Some.ensures.0 c.in-Some.ensures.1 in
    let walked = c.loop-rest.invariant in (
      λ a. (first.0 (walked.0 a)).2,
      λ a. walked.1 (first.1 (pos_of_ne-zero c.if-awaited-eq0.false, rw c.new.ensures at (c.if-not-is_canonical.ensures.0 (search rules)), a)),
    )
