use Rattle.std.proofs.Common.{◌∙◌, inl, refl}
use Rattle.rlp_lines.specs.Lines.{last_piece}
use Rattle.rlp_lines.proofs.ProgressLemmas.{AppendsBefore-served, IsStop-last, Appends-last, after_empty}
use Rattle.rlp_lines.proofs.serving.finish.Goals as goal

pub returns-in-Ok-clause-ok : goal.returns-in-Ok-clause-ok
returns-in-Ok-clause-ok g c start text served =
    Appends-last _ _ c.write_and_flush.result (g.W.Write.contents c.write_and_flush.new.output.inner) c.as_bytes.result.now served
    (c.as_bytes.ensures.value ∙ after_empty c.clear.ensures.bytes (c.in-Ok.ensures.ok text served.begun)) c.write_and_flush.ensures.ok

pub returns-in-Ok-clause-stop : goal.returns-in-Ok-clause-stop
returns-in-Ok-clause-stop g c start text served =
    IsStop-last _ _ c.write_and_flush.result (g.W.Write.contents c.write_and_flush.new.output.inner)
    c.write_and_flush.new.output.failed c.as_bytes.result.now served
    (c.as_bytes.ensures.value ∙ after_empty c.clear.ensures.bytes (c.in-Ok.ensures.ok text served.begun)) c.write_and_flush.ensures.part
    c.write_and_flush.ensures.failed c.write_and_flush.ensures.fault

pub returns-in-Err-clause-stop : goal.returns-in-Err-clause-stop
returns-in-Err-clause-stop g c start text served =
    inl (
      refl,
      AppendsBefore-served _ _ start (g.W.Write.contents c.args.output.now.inner) text served
          (c.in-Err.ensures.refused (last_piece text) served.begun),
    )
