use Rattle.std.proofs.Common.{arith}
use Rattle.rlp_show.proofs.LineLemmas.{line_answered, line_slice, transaction_only}
use Rattle.rlp_show.specs.declared.kind.Kind.TheVariants as kind
use Rattle.rlp_show.proofs.laws.only_transactions_are_shown.Goals as goal

pub returns : goal.returns
returns c = λ bytes v is ok.
    (transaction_only bytes v (line_slice c.args.line.now bytes (omega arith) is) ok, line_answered kind.Transaction c.args.line.now bytes v is ok)
