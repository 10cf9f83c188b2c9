use Rattle.std.proofs.Common.{arith}
use Rattle.std.specs.Vec.{vec_items}
use Rattle.rlp_reading.specs.Laws.{form_of}
use Rattle.rlp_reading.proofs.Corollaries.{list_alike, list_memory}
use Rattle.rlp.proofs.laws.round_trip.list_is_decoded.Goals as goal

pub returns-clause-alike : goal.returns-clause-alike
returns-clause-alike g c = λ vs all begins.
    list_alike (form_of _ _ _) g.met.T.RoundTrip.round_trip.back _ vs (omega arith) all begins vec_items _ g.met.T.RoundTrip.round_trip.told
    c.decode_list.ensures.value

pub returns-clause-memory : goal.returns-clause-memory
returns-clause-memory g c = λ vs all begins.
    list_memory (form_of _ _ _) g.met.T.RoundTrip.round_trip.back _ vs (omega arith) all begins _ _ c.decode_list.ensures.fault
