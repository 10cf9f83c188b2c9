use Rattle.rlp_reading.proofs.OwnFaultLaws.{groups_own}
use Rattle.rlp.proofs.laws.own_faults.fields_have_own_faults.Goals as goal

pub returns-clause-groups : goal.returns-clause-groups
returns-clause-groups g c = groups_own (λ xs. xs) g.F.DecodeFields.reading
