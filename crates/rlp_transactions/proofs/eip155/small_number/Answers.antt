use Rattle.std.proofs.{Common.arith, lemmas.Int.Digits.number_more}
use Rattle.rlp_transactions.proofs.Parities.{large}
use Rattle.rlp_transactions.proofs.eip155.small_number.Goals as goal

pub returns-then-number-clause-none : goal.returns-then-number-clause-none
returns-then-number-clause-none c =
    large c.args.digits.now c.loop-digit.digit-index (omega arith) (omega (arith, c.loop-digit.invariant))

pub loop-digit-preserved : goal.loop-digit-preserved
loop-digit-preserved c =
    let step = number_more 256 c.args.digits.now c.loop-digit.digit-index (omega arith) in omega (arith, step, c.loop-digit.invariant)
