use Rattle.rlp_stream.proofs.CountLemmas.{IsCounting}
use Rattle.rlp_stream.proofs.counting.count_items.Given as goal

abbrev pub invariant-loop-items : goal.invariant-loop-items
invariant-loop-items g l = IsCounting l.most (g.R.Read.remaining l.fn.reader) (g.R.Read.remaining l.reader) l.items l.bytes
