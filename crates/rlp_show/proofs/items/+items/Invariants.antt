use Rattle.std.proofs.Common.{◌≡◌, ◌+◌, ◌*◌, ◌<◌, ◌^◌, length}
use Rattle.rlp.specs.Views.View.{View}
use Rattle.rlp_show.specs.{Value.{after, after_items, values_of}, declared.sink.Bracket.TheVariants.CloseSquare, Items.items_shown, Items.shown_within}
use Rattle.rlp_show.proofs.items.+items.Given as goal

-- each call goes through one list more
abbrev pub decreases-show_item : goal.decreases-show_item
decreases-show_item g l = 4 * l.most

abbrev pub decreases-show_items : goal.decreases-show_items
decreases-show_items g l = 4 * l.most + 1

abbrev pub decreases-show_pair : goal.decreases-show_pair
decreases-show_pair g l = 4 * l.most + 1

abbrev pub decreases-show_branch : goal.decreases-show_branch
decreases-show_branch g l = 4 * l.most + 2

abbrev pub decreases-show_node : goal.decreases-show_node
decreases-show_node g l = 4 * l.most + 3

-- the items that are left, after those so far, are all items
abbrev pub invariant-show_items-loop-rest : goal.invariant-show_items-loop-rest
invariant-show_items-loop-rest g l = record {
  left : after g.S.Sink.steps l.name (items_shown (shown_within l.most) l.is_node l.items) (g.S.Sink.seen l.fn.sink)
      ≡ g.S.Sink.steps.bracket CloseSquare (
      after_items g.S.Sink.steps l.name l.index (values_of (λ (v : View). shown_within l.most l.is_node v.bytes) l.rest) (g.S.Sink.seen l.sink));
  few : l.index + length l.rest < 2 ^ 64;
}

abbrev pub decreases-show_items-loop-rest : goal.decreases-show_items-loop-rest
decreases-show_items-loop-rest g l = length l.rest
