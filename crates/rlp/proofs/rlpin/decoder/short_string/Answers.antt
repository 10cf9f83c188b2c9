use Rattle.std.proofs.Common.{rules, refl, arith}
use Rattle.rlp_reading.specs.Views.View.{View}
use Rattle.rlp_reading.proofs.Lemmas.StringsHeld.{after_held, first_held, held_only}
use Rattle.rlp.proofs.rlpin.decoder.short_string.Goals as goal

pub returns-in-0-to-127-clause-exact : goal.returns-in-0-to-127-clause-exact
returns-in-0-to-127-clause-exact c =
    let v : View = record { bytes = c.args.bytes.now; is_strict = c.args.strict } in
    held_only v _ (omega arith) (first_held v c.args.bytes.now refl (search rules) (search rules) (search rules))

pub returns-else-len-eq1-clause-exact : goal.returns-else-len-eq1-clause-exact
returns-else-len-eq1-clause-exact c =
    let v : View = record { bytes = c.args.bytes.now; is_strict = c.args.strict } in
    held_only v _ (omega arith) (after_held v c.args.bytes.now refl (search rules) (search rules) (search rules) (search rules) (search rules) (search rules))
