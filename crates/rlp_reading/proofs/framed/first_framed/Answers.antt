use Rattle.std.proofs.{Common.{rules, sym}, lemmas.Grind.common_steps}
use Rattle.rlp_format.proofs.Lemmas.Digits.{bytes_held}
use Rattle.rlp_reading.proofs.{Lemmas.Fronts.{front_frame, front_item, front_ends, front_item_value}, Lemmas.Fronts.item_whole}
use Rattle.rlp_reading.proofs.framed.first_framed.Goals as goal

pub invariant_of-result : goal.invariant_of-result
invariant_of-result c = record {
  reads = front_item_value c.args.bytes.now c.split_at.result.0.now c.in_ok-header.header (bytes_held c.args.bytes.now c.type_inv.bytes)
      (sym c.in_ok-header.ensures.exact) c.split_at.ensures.front;
  ends = front_ends c.args.bytes.now c.split_at.result.0.now c.in_ok-header.header c.in_ok-header.ensures.within.1 c.split_at.ensures.front;
  whole = item_whole _ (front_item c.args.bytes.now c.split_at.result.0.now c.in_ok-header.header c.in_ok-header.ensures.has c.in_ok-header.ensures.within.1 c.split_at.ensures.front);
  begins = search (rules, common_steps);
}

pub returns-clause-frame : goal.returns-clause-frame
returns-clause-frame c = front_frame c.args.bytes.now c.split_at.result.0.now c.in_ok-header.header (sym c.in_ok-header.ensures.exact) c.split_at.ensures.front
