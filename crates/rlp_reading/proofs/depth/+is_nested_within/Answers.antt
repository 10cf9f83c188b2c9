use Rattle.std.proofs.Common.{◌++◌, ◌∷◌, [], ◌-◌, sym, arith, rules}
use Rattle.rlp_reading.specs.{Views.Depth.depth}
use Rattle.rlp_reading.proofs.Lemmas.Texts.{depth-string, done-all, done-more, greatest-more, shallow-list}
use Rattle.rlp_reading.proofs.depth.+is_nested_within.Goals as goal

pub loop-others-preserved-in-Some : goal.loop-others-preserved-in-Some
loop-others-preserved-in-Some t c = record {
  done = c.loop-others.invariant.done ++ c.in-Some.field-0-0.now ∷ [];
  all = done-more c.loop-others.invariant.done _ c.loop-others.rest.now _ _ c.loop-others.invariant.all c.in-Some.ensures.parts;
  shallow = greatest-more c.loop-others.invariant.done c.in-Some.field-0-0.now (c.args.limit - 1) c.loop-others.invariant.shallow
      (omega (arith, depth-string c.in-Some.field-0-0.now c.in-Some.ensures.string));
}

pub loop-others-preserved : goal.loop-others-preserved
unfolding depth
loop-others-preserved t c = record {
  done = c.loop-others.invariant.done ++ c.in-Ok.item.item.now ∷ [];
  all = done-more c.loop-others.invariant.done _ c.loop-others.rest.now _ _ c.loop-others.invariant.all c.in-Ok.ensures.parts;
  shallow = greatest-more c.loop-others.invariant.done c.in-Ok.item.item.now (c.args.limit - 1) c.loop-others.invariant.shallow (search rules);
}

pub returns-in_default-first_framed : goal.returns-in_default-first_framed
returns-in_default-first_framed t c =
    shallow-list c.args.framed.now.item.now _ c.args.limit c.loop-others.invariant.done (sym c.if-not-is_list.ensures) c.args.framed.now.reads (omega arith)
    (done-all _ _ c.loop-others.rest.now c.loop-others.invariant.all c.in_default-first_framed.ensures.parts) c.loop-others.invariant.shallow
