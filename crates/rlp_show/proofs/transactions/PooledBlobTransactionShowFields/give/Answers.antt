use Rattle.rlp_show.proofs.transactions.PooledBlobTransactionShowFields.give.Goals as goal

pub returns-in-Proofs : goal.returns-in-Proofs
returns-in-Proofs g c = rw c.in-Proofs.is c.give.ensures

pub returns-in-CellProofs : goal.returns-in-CellProofs
returns-in-CellProofs g c = rw c.in-CellProofs.is c.give-in-CellProofs.ensures
