use Rattle.std.proofs.Common.{ap, arith, length}
use Rattle.rlp.proofs.Readers.{few_views}
use Rattle.rlp.proofs.rlpin.fields.Fields.over_items.Goals as goal

pub returns-clause-few : goal.returns-clause-few
returns-clause-few c = few_views _ _ (omega (arith, ap length c.new.ensures.rest))
