use Rattle.rlp_show.proofs.transactions.UnsignedTransactionShowFields.give.Goals as goal

pub returns-in-FeeMarket : goal.returns-in-FeeMarket
returns-in-FeeMarket g c = rw c.in-FeeMarket.is c.give-in-FeeMarket.ensures

pub returns-in-Blob : goal.returns-in-Blob
returns-in-Blob g c = rw c.in-Blob.is c.give-in-Blob.ensures

pub returns-in-SetCode : goal.returns-in-SetCode
returns-in-SetCode g c = rw c.in-SetCode.is c.give-in-SetCode.ensures
