use Rattle.std.proofs.Common.{◌≡◌, ◌+◌, ◌-◌, [], suc, take, arith}
use Rattle.rlp_write.specs.Streams.Closing.{closed_bytes}
use Rattle.rlp_write.proofs.{Streams.Closings.{Brings, brings, closes_all, closes_more}, closing.close_lists.Goals.After-shift}
use Rattle.rlp_write.proofs.closing.close_lists.Goals as goal

moved : (c : After-shift)
    → Brings (closed_bytes c.args.closing (take c.args.end c.args.buffer.now.items) [] c.args.lists.now) (c.loop-left.left - 1) c.shift.new.self.items
    c.in-Some.list.position (c.loop-left.to - (c.loop-left.from - (c.in-Some.list.position + 1))) c.pop.new.self
moved c =
    let next : c.loop-left.left ≡ suc (c.loop-left.left - 1) = omega arith in
    let h = rw (c.in-Some.ensures, next) at c.loop-left.invariant.closes in
    let order = h.order in
    brings _ _ _ _ _ _ _ (c.loop-left.from - (c.in-Some.list.position + 1)) _ _ h (omega (arith, order.0)) (omega (arith, h.room)) c.shift.ensures.items

pub write_list_header-to-requires-clause-room : goal.write_list_header-to-requires-clause-room
write_list_header-to-requires-clause-room c =
    let h = moved (goal.at.write_list_header-to-requires-clause-room c).After-shift in
    omega (arith, h.room)

pub loop-left-preserved : goal.loop-left-preserved
loop-left-preserved c =
    let next : c.loop-left.left ≡ suc (c.loop-left.left - 1) = omega arith in
    let now = rw (c.in-Some.ensures, next) at c.loop-left.invariant in
    let order = now.closes.order in
    let written = c.write_list_header-to.ensures in
    record {
      closes = closes_more _ _ _ _ _ _ _ _ (moved (goal.at.loop-left-preserved c).After-shift) written.begin written.items;
      rest = now.rest;
      lowest = now.lowest;
      counted = grind (arith, now.closes.room, now.counted, written.moved, c.shift.ensures.counted, c.shift.ensures.in_place);
      moved = grind (arith, now.closes.room, order.0, now.moved, written.moved, c.shift.ensures.counted, c.shift.ensures.in_place);
    }

pub returns-after-loop-left-clause-bytes : goal.returns-after-loop-left-clause-bytes
returns-after-loop-left-clause-bytes c =
    let none : c.loop-left.left ≡ 0 = omega arith in
    closes_all _ c.loop-left.buffer.items c.loop-left.from c.loop-left.to c.loop-left.lists (rw none at c.loop-left.invariant.closes)
