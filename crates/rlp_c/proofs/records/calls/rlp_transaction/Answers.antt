use Rattle.std.proofs.Common.{◌<◌, ◌^◌, length, arith}
use Rattle.rlp_c.proofs.RecordAnswers.{transaction_exact, transaction_written}
use Rattle.rlp_c.proofs.records.calls.rlp_transaction.Goals as goal

pub returns-clause-exact : goal.returns-clause-exact
returns-clause-exact c = transaction_exact c.args.bytes.now _ _ _ _ _ _ _ c.read_transaction.ensures

pub returns-clause-written : goal.returns-clause-written
returns-clause-written c = λ t fit is.
    let short : length c.args.bytes.now < 2 ^ 64 = omega arith in
    transaction_written _ _ _ _ _ _ t c.args.bytes.now short fit is c.read_transaction.ensures
