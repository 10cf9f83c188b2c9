use Rattle.std.proofs.{Common.{◌+◌, ◌-◌, ◌*◌, ◌≤◌, length, arith, subst}, lemmas.Bool.Decides.nat_tests}
use Rattle.rlp_write.specs.Streams.Stream.{Seen, closed_size_with}
use Rattle.rlp_write.proofs.Streams.ClosedSize.{within_few}
use Rattle.rlp_write.proofs.flat.RlpStream.is_surely_within_size.Goals as goal

pub returns-in-Some : goal.returns-in-Some
returns-in-Some c =
    λ within.
    let i = c.self.inside in
    let most : c.in-Some.most ≤ c.args.limit = grind (arith, nat_tests) in
    let few : (length i.buffer.items - i.start) + 8 * length i.lists + c.args.add ≤ c.args.limit =
    omega (arith, most, c.in-Some.ensures.1, c.len.ensures.value, c.len-2.ensures.value) in
    subst (λ (v : Seen). closed_size_with c.args.add v.state ≤ c.args.limit) c.self.view_is
    (within_few i.start i.buffer.items i.lists i.is_counted c.args.add c.args.limit c.self.invariant (omega (arith, c.ranges.limit)) few)
