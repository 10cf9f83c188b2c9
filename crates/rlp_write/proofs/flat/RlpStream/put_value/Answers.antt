use Rattle.std.proofs.{Common.{sym, ◌∙◌}, lemmas.Result.on_err_weaker}
use Rattle.rlp_write.specs.Streams.Stream.{IsAsBefore}
use Rattle.rlp_write.proofs.Streams.Growth.{grows_uncounted}
use Rattle.rlp_write.proofs.flat.RlpStream.put_value.Goals as goal

pub returns-clause-refused : goal.returns-clause-refused
returns-clause-refused g c =
    on_err_weaker c.try_count.result (λ (same : IsAsBefore c.rlp_append.new.s c.try_count.new.self).
    grows_uncounted (g.E.Encodable.item c.args.value.now) c.args.self.now.state c.rlp_append.new.s.state c.try_count.new.self.state
    c.in_ok-rlp_append.ensures.ok (sym c.is_counted.ensures ∙ c.if-is_counted.false) same.0) c.try_count.ensures.refused
