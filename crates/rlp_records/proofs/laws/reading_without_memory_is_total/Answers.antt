use Rattle.std.proofs.Common.{arith}
use Rattle.rlp_reading.specs.Laws.{form_of}
use Rattle.rlp_records.proofs.SeenSame.{never_lacks, seen_same}
use Rattle.rlp_records.proofs.laws.reading_without_memory_is_total.Goals as goal

pub returns-clause-value : goal.returns-clause-value
returns-clause-value g c = λ none v fit is.
    never_lacks _ _ c.decode_whole.result g.R.Decodable.reading.takes_memory none (c.decode_whole.ensures.memory v fit is)
    (seen_same (form_of g.R.Encodable.fits g.R.Encodable.item g.R.Decodable.reading) g.met.R.StrictRead.strict c.args.bytes.now (omega arith) v fit is
    c.decode_whole.result c.decode_whole.ensures.whole)
