use Rattle.std.specs.Vec.{vec_items}
use Rattle.std.proofs.Common.{◌≡◌, ◌+◌, ◌<◌, ◌^◌, length, map}
use Rattle.rlp_show.specs.{Value.{after, after_items, array, values_of}, declared.sink.Bracket.TheVariants.CloseSquare}
use Rattle.rlp_show.proofs.show.ItemsShow.show.Given as goal

-- the items that are left, after those so far, are all items
abbrev pub invariant-loop-first : goal.invariant-loop-first
invariant-loop-first g l = record {
  left : after g.S.Sink.steps l.name (array (values_of g.T.Show.display.form.shown (map g.T.Show.display.seen (vec_items l.self.0.now)))) (g.S.Sink.seen l.fn.sink)
      ≡ g.S.Sink.steps.bracket CloseSquare (after_items g.S.Sink.steps l.name l.index (values_of g.T.Show.display.form.shown (map g.T.Show.display.seen l.rest)) (g.S.Sink.seen l.sink));
  few : l.index + length l.rest < 2 ^ 64;
}

abbrev pub decreases-loop-first : goal.decreases-loop-first
decreases-loop-first g l = length l.rest
