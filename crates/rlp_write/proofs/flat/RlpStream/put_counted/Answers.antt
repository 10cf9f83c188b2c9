use Rattle.std.proofs.Common.{sym, ◌∙◌}
use Rattle.rlp_write.proofs.Streams.FlatBuffer.{stands, stands_put, stands_within}
use Rattle.rlp_write.proofs.flat.RlpStream.put_counted.Goals as goal

pub returns-clause-ok : goal.returns-clause-ok
returns-clause-ok c =
    let now = stands c.self.inside _ c.self.view_is c.self.invariant in
    (stands_within _ _ _ _ _ (stands_put now c.args.bytes.now _ (rw c.in_ok-make_room.ensures.items at c.extend_reserved.ensures.items)) c.args.items c.is_empty.result _
    (sym c.closes.ensures ∙ c.if-closes.false) c.count_innermost.ensures c.is_empty.ensures).is
