use Rattle.rlp_write.proofs.Streams.Finalizing.{finalized-next, finalized-in_turn}
use Rattle.rlp_write.proofs.laws.unbounded_lists_are_finalized_in_turn.Goals as goal

pub returns-clause-admitted : goal.returns-clause-admitted
returns-clause-admitted c = finalized-next

pub returns-clause-in_turn : goal.returns-clause-in_turn
returns-clause-in_turn c = finalized-in_turn
