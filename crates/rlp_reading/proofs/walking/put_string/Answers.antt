use Rattle.std.proofs.Common.{rules, sym, ◌∙◌, arith}
use Rattle.rlp_reading.proofs.{Lemmas.Frames.item_some, Trees.Canonical.{fault_refutes, needless_fault-some, walk_fault-string}}
use Rattle.rlp_reading.proofs.{Trees.Needless.whole_item, Trees.Walks.walked_string}
use Rattle.rlp_reading.proofs.walking.put_string.Goals as goal

pub returns-then-is_needless-clause-walked : goal.returns-then-is_needless-clause-walked
returns-then-is_needless-clause-walked g c = λ most.
    fault_refutes most c.args.framed.now.item.now _ (omega (arith, c.requires.room))
    (walk_fault-string most c.args.framed.now.item.now c.requires.kind ∙ needless_fault-some c.args.framed.now.item.now (sym c.if-is_needless.ensures))

pub returns-clause-walked : goal.returns-clause-walked
returns-clause-walked g c =
    walked_string (whole_item c.requires.item c.requires.header c.args.framed.now.reads) (sym c.requires.kind) (sym c.if-is_needless.ensures) c.requires.few
    (item_some _ c.requires.item) (search rules)
