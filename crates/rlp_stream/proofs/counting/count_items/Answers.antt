use Rattle.std.proofs.Common.{rules, ◌≡◌, length, vec_len}
use Rattle.std.proofs.lemmas.{List.places, Result.err_from_is_err_and}
use Rattle.rlp_stream.proofs.CountLemmas.{IsCounting-more, Counts-end, fault-next, item-found, none-found, stopped}
use Rattle.rlp_stream.specs.declared.fault.ReadFault.TheVariants.{Io}
use Rattle.rlp_stream.proofs.counting.count_items.Goals as goal

pub returns-then-not-branch-clause-ok : goal.returns-then-not-branch-clause-ok
returns-then-not-branch-clause-ok g c =
    Counts-end c.args.most _ (g.R.Read.remaining c.loop-items.reader) c.loop-items.items c.loop-items.bytes c.loop-items.invariant
    (none-found c.args.most c.in_ok-read_item.field-0 (g.R.Read.remaining c.loop-items.reader) c.if-not-branch.true c.in_ok-read_item.ensures.answer)

pub loop-items-preserved : goal.loop-items-preserved
loop-items-preserved g c =
    let len : length c.read_item.new.out.items ≡ vec_len c.read_item.new.out = search (rules, places) in
    IsCounting-more c.args.most _ _ (g.R.Read.remaining c.read_item.new.reader) c.loop-items.items c.loop-items.bytes _ c.read_item.new.out.items
    c.loop-items.invariant
    (item-found c.args.most (vec_len c.read_item.new.out) c.in_ok-read_item.field-0 c.read_item.new.out.items c.if-not-branch.false
    c.in_ok-read_item.ensures.item len)
    c.read_item.ensures.read (search (rules, len))

pub returns-in_err-read_item-clause-fault : goal.returns-in_err-read_item-clause-fault
returns-in_err-read_item-clause-fault g c =
    let p = err_from_is_err_and c.from_residual.result c.from_residual.ensures.1 in
    rw (p.1, p.2) (fault-next c.args.most _ (g.R.Read.remaining c.loop-items.reader) c.loop-items.items c.loop-items.bytes c.in_err-read_item.field-0.0
    c.loop-items.invariant c.in_err-read_item.ensures.answer)

pub returns-clause-fault : goal.returns-clause-fault
returns-clause-fault g c =
    fault-next c.args.most _ (g.R.Read.remaining c.loop-items.reader) c.loop-items.items c.loop-items.bytes (Io c.from.result) c.loop-items.invariant
    (stopped c.args.most (g.R.Read.remaining c.loop-items.reader) (Io c.from.result) tt)
