use Rattle.std.proofs.Common.{Some, ap, rules, sym, ◌∙◌}
use Rattle.rlp_lines.proofs.{DigitLemmas.{read-nothing, read-some}, ProgressLemmas.OnErr-always}
use Rattle.rlp_lines.proofs.digits.read_bytes.Goals as goal

pub returns-then-is_empty-clause-gives : goal.returns-then-is_empty-clause-gives
returns-then-is_empty-clause-gives c =
    ap Some c.new.ensures.items ∙ sym (rw c.without_prefix-digits.ensures at (read-nothing c.without_prefix-digits.result.now c.if-is_empty.ensures))

pub returns-in_err-bytes-clause-refused : goal.returns-in_err-bytes-clause-refused
returns-in_err-bytes-clause-refused c =
    let pairs = c.are_pairs.ensures.some (search rules) in
    OnErr-always c.from_residual.result (rw c.without_prefix-digits.ensures at (read-some _ pairs.0 c.if-is_empty.ensures pairs.1))
