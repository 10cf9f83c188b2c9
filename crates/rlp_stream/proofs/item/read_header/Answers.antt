use Rattle.std.proofs.{Common.rules, lemmas.List.places}
use Rattle.rlp_stream.proofs.HeaderLemmas.{short-read}
use Rattle.rlp_stream.proofs.item.read_header.Goals as goal

pub returns-clause-short : goal.returns-clause-short
returns-clause-short g c =
    short-read _ _ c.append.new.out.items c.append-2.new.out.items c.index.result.now c.announced-end.result (search (rules, places)) c.index.ensures
    c.announced-end.ensures c.append-2.ensures.read (search (rules, places))
