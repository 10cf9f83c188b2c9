use Rattle.rlp_reading.proofs.{ListLaws.items_faulty, Lemmas.Fronts.propagated}
use Rattle.rlp.proofs.rlpin.fields.Fields.of.Goals as goal

pub returns-in_err-check_items-clause-items : goal.returns-in_err-check_items-clause-items
returns-in_err-check_items-clause-items c = propagated _ _ _ _ c.from_residual.ensures (items_faulty c.args.rlp.now _ c.in_err-check_items.ensures)
