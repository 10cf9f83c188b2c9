use Rattle.std.proofs.Common.{ap}
use Rattle.rlp.specs.Format.Encoding.{encoding}
use Rattle.rlp_reading.{proofs.{Lemmas.Items.{encoding_same}, Corollaries.{told_by_item}}, specs.Laws.{form_of}}
use Rattle.rlp_records.proofs.laws.encodings_tell_records.Goals as goal

pub returns-clause-alike : goal.returns-clause-alike
returns-clause-alike g c = λ one other. (encoding_same _ _ one other, ap encoding)

pub returns-clause-fields : goal.returns-clause-fields
returns-clause-fields g c = λ fit other small little same.
    told_by_item (form_of g.R.Encodable.fits g.R.Encodable.item g.R.Decodable.reading) g.met.R.RoundTrip.round_trip c.args.one.now c.args.other.now fit other
    (encoding_same _ _ small little same) small
