use Rattle.std.proofs.Common.{ap, ◌∙◌, append-nil, arith}
use Rattle.std.specs.Int.Digits.{number_from_digits}
use Rattle.rlp_transactions.proofs.Parities.{number_high_first}
use Rattle.rlp_transactions.proofs.eip155.wide.Goals as goal

pub returns : goal.returns
returns c =
    ap (number_from_digits 256) (append-nil c.copy_from_slice.new.self ∙ c.copy_from_slice.ensures.after ∙ c.to_be_bytes.ensures)
    ∙ number_high_first 16 c.args.number (omega arith)
