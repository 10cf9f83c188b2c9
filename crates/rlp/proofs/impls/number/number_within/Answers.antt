use Rattle.std.proofs.Common.{ap, arith, length, rules}
use Rattle.rlp_reading.proofs.{Lemmas.StringsHeld.lone_digit, StringLaws.number_given}
use Rattle.rlp.proofs.impls.number.number_within.Goals as goal

pub returns-in-1-to-127-clause-fits : goal.returns-in-1-to-127-clause-fits
returns-in-1-to-127-clause-fits g c =
    (lone_digit g.row.WIDTH c.args.rlp.now c.as_raw-bytes.result.now c.as_raw-bytes.ensures (search rules) (search rules) (search rules) (search rules) (search rules)).fits

pub returns-in-1-to-127-clause-value : goal.returns-in-1-to-127-clause-value
returns-in-1-to-127-clause-value g c =
    number_given _ _ c.args.rlp.now (omega (arith, ap length c.as_raw-bytes.ensures))
    (lone_digit g.row.WIDTH c.args.rlp.now c.as_raw-bytes.result.now c.as_raw-bytes.ensures (search rules) (search rules) (search rules) (search rules) (search rules))
