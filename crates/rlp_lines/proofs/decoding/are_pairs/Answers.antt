use Rattle.std.proofs.Common.{◌∙◌, sym}
use Rattle.rlp_lines.proofs.DigitLemmas.{read-no_digits, read-odd}
use Rattle.rlp_lines.proofs.decoding.are_pairs.Goals as goal

pub returns-then-text-ne0-clause-none : goal.returns-then-text-ne0-clause-none
returns-then-text-ne0-clause-none c = λ no. read-odd c.args.text.now c.if-text-ne0.true

pub returns-clause-none : goal.returns-clause-none
returns-clause-none c = λ no. read-no_digits c.args.text.now (sym c.are_digits.ensures ∙ no)
