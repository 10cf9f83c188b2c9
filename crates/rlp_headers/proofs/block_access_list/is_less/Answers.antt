use Rattle.std.{proofs.Common.{rules, ap, ◌∙◌}, specs.Ordering.{is_lt}}
use Rattle.rlp_reading.proofs.Lemmas.Reading.{bytes_held}
use Rattle.rlp_headers.proofs.Numbers.{bytes_order}
use Rattle.rlp_headers.proofs.block_access_list.is_less.Goals as goal

pub returns : goal.returns
returns c =
    c.is_lt.ensures ∙ ap is_lt c.cmp.ensures
    ∙ bytes_order c.args.a.now c.args.b.now (bytes_held c.args.a.now (search rules)) (bytes_held c.args.b.now (search rules)) c.requires
