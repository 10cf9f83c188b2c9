use Rattle.std.proofs.lemmas.Bool.{cond-false}
use Rattle.rlp_reading.proofs.{Lemmas.Numbered.{item_at-in_order, item_at-no_list, item_at-past_same}, Lemmas.WholeLists.strict_past}
use Rattle.rlp.proofs.laws.views.items_by_number_are_in_order.Goals as goal

pub returns : goal.returns
returns c = record {
  there = λ i item. item_at-in_order c.args.rlp.now item i;
  past = item_at-past_same c.args.rlp.now;
  no_list = item_at-no_list c.args.rlp.now;
  lenient = cond-false c.args.rlp.now.is_strict _ _;
  strict_past = strict_past c.args.rlp.now;
}
