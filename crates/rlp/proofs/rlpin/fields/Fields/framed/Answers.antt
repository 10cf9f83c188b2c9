use Rattle.std.proofs.Common.{refl}
use Rattle.rlp.proofs.Readers.{items_by_end}
use Rattle.rlp.proofs.rlpin.fields.Fields.framed.Goals as goal

pub returns-clause-whole : goal.returns-clause-whole
returns-clause-whole c =
    rw c.over_items.ensures.exact (items_by_end c.args.rlp.now _ c.in_ok-items.items.now _ c.is_strict.ensures refl c.in_ok-items.ensures.items c.in_ok-items.ensures.whole)
