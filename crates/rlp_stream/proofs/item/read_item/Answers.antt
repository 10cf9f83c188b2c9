use Rattle.std.proofs.{Common.rules, lemmas.List.places}
use Rattle.rlp_stream.proofs.AnswerLemmas.{frame-read}
use Rattle.rlp_stream.proofs.item.read_item.Goals as goal

pub returns-then-branch-clause-frame : goal.returns-then-branch-clause-frame
returns-then-branch-clause-frame g c =
    frame-read (g.R.Read.remaining c.args.reader.now) (g.R.Read.remaining c.read_header.new.reader) (g.R.Read.remaining c.append.new.reader)
    c.in_ok-total.total c.read_header.new.out.items c.as_slice.result.now c.append.new.out.items c.read_header.ensures.read c.append.ensures.read
    c.as_slice.ensures.value c.in_ok-total.ensures.announced (search (rules, places))
