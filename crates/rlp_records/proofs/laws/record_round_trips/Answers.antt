use Rattle.std.proofs.Common.{◌≡◌, arith, rules}
use Rattle.rlp.specs.Format.Encoding.{encoding}
use Rattle.rlp_reading.specs.Laws.{form_of}
use Rattle.rlp_records.proofs.SeenSame.{seen_same}
use Rattle.rlp_records.proofs.laws.record_round_trips.Goals as goal

pub returns-clause-same : goal.returns-clause-same
returns-clause-same g c =
    let is : c.as_slice.result.now ≡ encoding (g.R.Encodable.item c.args.value.now) = search rules in
    seen_same (form_of g.R.Encodable.fits g.R.Encodable.item g.R.Decodable.reading) g.met.R.StrictRead.strict c.as_slice.result.now (omega arith)
    c.args.value.now c.in_ok-bytes.ensures.fits is c.record_is_read.result c.record_is_read.ensures.whole
