use Rattle.rlp_lines.proofs.ProgressLemmas.{AppendsPart-whole}
use Rattle.rlp_lines.proofs.serving.write_and_flush.Goals as goal

pub returns-in-Err-clause-part : goal.returns-in-Err-clause-part
returns-in-Err-clause-part g c =
    AppendsPart-whole (g.W.Write.contents c.args.output.now.inner) (g.W.Write.contents c.write_whole.new.output.inner)
    (g.W.Write.contents c.flush.new.self.inner) c.args.bytes.now c.in_ok-write_whole.ensures.ok c.in-Err.ensures.bytes
