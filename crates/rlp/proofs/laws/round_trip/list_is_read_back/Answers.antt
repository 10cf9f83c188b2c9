use Rattle.std.proofs.Common.{arith}
use Rattle.rlp_reading.specs.Laws.{form_of}
use Rattle.rlp_reading.proofs.{Corollaries.{list_item_back, lists_back}, Lemmas.Views.list_items}
use Rattle.rlp.proofs.laws.round_trip.list_is_read_back.Goals as goal

pub returns-clause-items : goal.returns-clause-items
returns-clause-items g c = λ vs begins. list_items _ vs _ (omega arith) begins

pub returns-clause-each : goal.returns-clause-each
returns-clause-each g c = λ before after v begins fit. list_item_back (form_of _ _ _) g.met.T.RoundTrip.round_trip before after v _ (omega arith) fit begins

pub returns-clause-all : goal.returns-clause-all
returns-clause-all g c = λ vs all begins. lists_back (form_of _ _ _) g.met.T.RoundTrip.round_trip.back _ vs (omega arith) all begins
