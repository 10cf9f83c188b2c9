use Rattle.std.proofs.Common.{◌≡◌, ◌++◌, true, ap, length, ◌∙◌, arith, length-append}
use Rattle.rlp_write.specs.Streams.Stream.{Seen, closed_size, count, put}
use Rattle.rlp_write.proofs.{Streams.FlatBuffer.{StandsFor, stands, stands_filled, stands_moved}, flat.RlpStream.put_closing.Goals.After-count_innermost}
use Rattle.rlp_write.proofs.flat.RlpStream.put_closing.Goals as goal

-- the bytes are put at the end
whole : (c : After-count_innermost) → c.extend_reserved.new.self.items ≡ c.self.inside.buffer.items ++ c.args.bytes.now
whole c = c.extend_reserved.ensures.items ∙ ap (λ b. b ++ c.args.bytes.now) c.in_ok-reserve.ensures.items

-- the plan is made for this end
ends : (c : After-count_innermost) → c.in_ok-end.end ≡ length c.extend_reserved.new.self.items
ends c = omega (arith, c.in_ok-end.ensures.value, ap length (whole c), length-append c.self.inside.buffer.items c.args.bytes.now)

done : (c : After-count_innermost)
    → StandsFor (count c.args.items (put c.args.bytes.now c.args.self.now.state)) c.self.inside.start c.close_lists.new.buffer.items c.count_innermost.new.self true
done c =
    stands_filled (stands c.self.inside _ c.self.view_is c.self.invariant) c.args.items c.args.bytes.now c.advance_mut.new.self.items c.requires
    (whole c) (ends c) c.advance_mut.ensures.front
    c.plan_count-plan.ensures.closing c.close_lists.ensures.bytes c.close_lists.ensures.lists c.count_innermost.ensures

pub invariant_of-self-2 : goal.invariant_of-self-2
invariant_of-self-2 c = (done (goal.at.invariant_of-self-2 c).After-count_innermost).laid

pub returns-clause-ok : goal.returns-clause-ok
returns-clause-ok c = (done (goal.at.returns-clause-ok c).After-count_innermost).is

pub returns-clause-moved : goal.returns-clause-moved
returns-clause-moved c =
    let after = (goal.at.returns-clause-moved c).After-count_innermost in
    let still : c.advance_mut.new.self.moved ≡ c.args.self.now.moved =
    c.advance_mut.ensures.moved ∙ c.extend_reserved.ensures.moved ∙ c.in_ok-reserve.ensures.moved ∙ ap (λ (v : Seen). v.moved) c.self.view_is in
    let within = stands_moved (stands c.self.inside _ c.self.view_is c.self.invariant) c.args.items c.plan_count-plan.result.closing c.args.self.now.moved
    c.close_lists.new.buffer.moved c.in_ok-end.end c.args.bytes.now _ (whole after) (ends after)
    (omega (arith, c.close_lists.ensures.moved, still)) in
    let done = done after in
    (omega (arith, c.close_lists.ensures.counted, still), omega (arith, within, ap closed_size done.is))
