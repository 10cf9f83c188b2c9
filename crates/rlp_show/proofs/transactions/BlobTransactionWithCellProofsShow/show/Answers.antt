use Rattle.rlp_show.proofs.transactions.BlobTransactionWithCellProofsShow.show.Goals as goal

pub returns : goal.returns
returns g c = rw c.in_ok-hash.ensures at c.show.ensures
