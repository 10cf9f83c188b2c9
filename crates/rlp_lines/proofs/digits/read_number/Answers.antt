use Rattle.std.proofs.Common.{sym, ◌∙◌}
use Rattle.rlp_lines.proofs.DigitLemmas.{number_after-none, number_after-end}
use Rattle.rlp_lines.proofs.digits.read_number.Goals as goal

pub returns-in_default-put_digit : goal.returns-in_default-put_digit
returns-in_default-put_digit c = sym (c.loop-byte.invariant.decide ∙ number_after-none _ _ _ _
    c.in-Some.ensures.cases.0 (sym c.put_digit.ensures ∙ c.in_default-put_digit.is))

pub returns : goal.returns
returns c = sym (c.loop-byte.invariant.decide ∙ number_after-end c.loop-byte.value c.loop-byte.rest.now c.loop-byte.invariant.small c.in_default.ensures.cases)
