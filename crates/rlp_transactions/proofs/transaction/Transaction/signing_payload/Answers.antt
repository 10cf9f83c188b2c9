use Rattle.std.proofs.Common.{rules}
use Rattle.rlp_transactions.specs.declared.unsigned_transaction.UnsignedTransaction.TheVariants.{AccessList, Blob, FeeMarket, Legacy, SetCode}
use Rattle.rlp_transactions.proofs.Parities.{legacy_signed}
use Rattle.rlp_transactions.proofs.transaction.Transaction.signing_payload.Goals as goal

pub returns-in_ok-unsigned_bytes-in-Some-clause-some : goal.returns-in_ok-unsigned_bytes-in-Some-clause-some
returns-in_ok-unsigned_bytes-in-Some-clause-some c = (
  Legacy (record { payload = c.in-Legacy.tx.payload; chain_id = c.in-Some.said.chain_id }),
  c.in-Some.said.y_parity,
  (legacy_signed c.args.self.now c.in-Legacy.tx c.in-Some.said (search rules) c.in-Some.ensures.some, search rules),
)

pub returns-in_ok-signing_payload-in-AccessList-clause-some : goal.returns-in_ok-signing_payload-in-AccessList-clause-some
returns-in_ok-signing_payload-in-AccessList-clause-some c = (AccessList c.in-AccessList.tx.payload, c.in-AccessList.tx.v, (search rules, search rules))

pub returns-in_ok-signing_payload-in-FeeMarket-clause-some : goal.returns-in_ok-signing_payload-in-FeeMarket-clause-some
returns-in_ok-signing_payload-in-FeeMarket-clause-some c = (FeeMarket c.in-FeeMarket.tx.payload, c.in-FeeMarket.tx.v, (search rules, search rules))

pub returns-in_ok-signing_payload-in-Blob-clause-some : goal.returns-in_ok-signing_payload-in-Blob-clause-some
returns-in_ok-signing_payload-in-Blob-clause-some c = (Blob c.in-Blob.tx.payload, c.in-Blob.tx.v, (search rules, search rules))

pub returns-in_ok-signing_payload-in-SetCode-clause-some : goal.returns-in_ok-signing_payload-in-SetCode-clause-some
returns-in_ok-signing_payload-in-SetCode-clause-some c = (SetCode c.in-SetCode.tx.payload, c.in-SetCode.tx.v, (search rules, search rules))
