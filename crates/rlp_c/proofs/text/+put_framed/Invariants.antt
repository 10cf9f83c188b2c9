use Rattle.std.proofs.Common.{length}
use Rattle.rlp_c.proofs.Texts.{IsPrinting}
use Rattle.rlp_c.proofs.text.+put_framed.Given as goal

abbrev pub decreases-put_framed : goal.decreases-put_framed
decreases-put_framed l = length l.framed.now.item.now

-- the first items are written
abbrev pub invariant-loop-item : goal.invariant-loop-item
invariant-loop-item l = IsPrinting l.fn.framed.item.now l.rest l.fn.out l.at l.separator l.out l.place

abbrev pub decreases-loop-item : goal.decreases-loop-item
decreases-loop-item l = length l.rest
