use Rattle.std.proofs.Common.{◌^◌, ◌<◌, sym, ap, subst, ◌∙◌, refl, arith}
use Rattle.rlp_write.specs.Streams.Stream.{Seen, closed_size, closed_size_with}
use Rattle.rlp_write.proofs.Streams.ClosedSize.{closed_size_is, closed_small}
use Rattle.rlp_write.proofs.flat.RlpStream.size_with.Goals as goal

pub returns-clause-size : goal.returns-clause-size
returns-clause-size c =
    let i = c.self.inside in
    let is = closed_size_is i.start i.buffer.items i.lists i.is_counted c.args.more c.self.invariant ∙ sym (rw c.len.ensures.value refl) in
    let size = sym (ap (λ (v : Seen). closed_size_with c.args.more v.state) c.self.view_is) ∙ is in
    rw size c.closed_len.ensures.size

pub returns-clause-small : goal.returns-clause-small
returns-clause-small c =
    let i = c.self.inside in
    subst (λ (v : Seen). closed_size v.state < 2 ^ 64) c.self.view_is
    (closed_small i.start i.buffer.items i.lists i.is_counted c.self.invariant (omega (arith, c.len.ensures)) c.closed_len.ensures.few)
