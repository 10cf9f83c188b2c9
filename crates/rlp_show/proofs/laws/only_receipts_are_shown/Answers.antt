use Rattle.std.proofs.Common.{arith}
use Rattle.rlp_show.proofs.LineLemmas.{line_answered, line_slice, receipt_only}
use Rattle.rlp_show.specs.declared.kind.Kind.TheVariants as kind
use Rattle.rlp_show.proofs.laws.only_receipts_are_shown.Goals as goal

pub returns : goal.returns
returns c = λ bytes v is ok.
    (receipt_only bytes v (line_slice c.args.line.now bytes (omega arith) is) ok, line_answered kind.Receipt c.args.line.now bytes v is ok)
