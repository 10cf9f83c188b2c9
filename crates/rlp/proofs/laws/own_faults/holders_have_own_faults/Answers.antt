use Rattle.rlp_reading.proofs.OwnFaultLaws.{boxes_own, items_at_own, lists_own, options_own}
use Rattle.rlp.proofs.laws.own_faults.holders_have_own_faults.Goals as goal

pub returns-clause-options : goal.returns-clause-options
returns-clause-options g c = options_own g.T.Decodable.reading

pub returns-clause-lists : goal.returns-clause-lists
returns-clause-lists g c = lists_own g.T.Decodable.reading

pub returns-clause-boxes : goal.returns-clause-boxes
returns-clause-boxes g c = boxes_own (λ x. x) g.T.Decodable.reading

pub returns-clause-items : goal.returns-clause-items
returns-clause-items g c = items_at_own g.T.Decodable.reading
