use Rattle.std.proofs.Common.{◌∙◌, arith}
use Rattle.rlp_lines.proofs.ProgressLemmas.{IsWriting-more, IsWriting-part, Keeps-none}
use Rattle.rlp_lines.proofs.serving.write_whole.Goals as goal

pub loop-rest-preserved : goal.loop-rest-preserved
loop-rest-preserved g c = record {
  writing = IsWriting-more (g.W.Write.contents c.write.new.self.inner) c.in-Ok.count c.loop-rest.invariant.writing c.in-Ok.ensures.bytes;
  kept = c.in-Ok.ensures.some_taken (omega (arith, c.in-Ok.count-test.1)) ∙ c.loop-rest.invariant.kept;
}

pub returns-in-Ok-eq0-clause-part : goal.returns-in-Ok-eq0-clause-part
returns-in-Ok-eq0-clause-part g c =
    IsWriting-part (g.W.Write.contents c.write.new.self.inner) c.loop-rest.invariant.writing
    (Keeps-none (g.W.Write.contents c.loop-rest.output.inner) (g.W.Write.contents c.write.new.self.inner) c.loop-rest.rest.now c.in-Ok-eq0.field-0
    c.in-Ok-eq0.field-0-test c.in-Ok-eq0.ensures.bytes)

pub returns-in-Err-clause-part : goal.returns-in-Err-clause-part
returns-in-Err-clause-part g c = IsWriting-part (g.W.Write.contents c.write.new.self.inner) c.loop-rest.invariant.writing c.in-Err.ensures.bytes
