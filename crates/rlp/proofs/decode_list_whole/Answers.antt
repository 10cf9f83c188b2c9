use Rattle.std.proofs.Common.{arith, true}
use Rattle.std.specs.Vec.{vec_items}
use Rattle.rlp_format.proofs.Lemmas.Digits.{bytes_held}
use Rattle.rlp_reading.specs.Laws.{form_of}
use Rattle.rlp_reading.proofs.Corollaries.{list_alike, list_memory, strict_list_only, strict_list_whole}
use Rattle.rlp.proofs.decode_list_whole.Goals as goal

pub returns-clause-whole : goal.returns-clause-whole
returns-clause-whole g c =
    let codec = form_of g.T.Encodable.fits g.T.Encodable.item g.T.Decodable.reading in
    strict_list_whole codec vec_items g.met.T.StrictRead.strict _ _ (bytes_held _ c.type_inv.bytes) (omega arith) c.decode_list_strict.ensures.value

pub returns-clause-only : goal.returns-clause-only
returns-clause-only g c = λ vs same.
    let codec = form_of g.T.Encodable.fits g.T.Encodable.item g.T.Decodable.reading in
    strict_list_only codec vec_items c.args.bytes.now vs _
    (strict_list_whole codec vec_items g.met.T.StrictRead.strict _ _ (bytes_held _ c.type_inv.bytes) (omega arith) c.decode_list_strict.ensures.value) same

pub returns-clause-alike : goal.returns-clause-alike
returns-clause-alike g c = λ vs all whole.
    list_alike (form_of _ _ _) (g.met.T.StrictRead.strict.back true) _ vs (omega arith) all whole vec_items _ g.met.T.StrictRead.strict.told
    c.decode_list_strict.ensures.value

pub returns-clause-memory : goal.returns-clause-memory
returns-clause-memory g c = λ vs all whole.
    list_memory (form_of _ _ _) (g.met.T.StrictRead.strict.back true) _ vs (omega arith) all whole _ _ c.decode_list_strict.ensures.fault
