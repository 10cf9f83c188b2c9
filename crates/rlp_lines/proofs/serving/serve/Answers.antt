use Rattle.std.proofs.Common.{Err, inl, refl, string_bytes, ◌++◌}
use Rattle.rlp_lines.specs.{Lines.ended_lines, Replies.replies_to, Replies.answer_by}
use Rattle.rlp_lines.proofs.ProgressLemmas.{AppendsBefore-written, IsAfter-served, IsServed-written, IsStop-some, IsStop-written}
use Rattle.rlp_lines.proofs.serving.serve.Goals as goal

pub returns-in-Ok-clause-ok : goal.returns-in-Ok-clause-ok
returns-in-Ok-clause-ok g c start text served =
    let after = c.in-Ok.ensures.ok text (replies_to (answer_by g.A.LineAnswers.longest (g.A.LineAnswers.long_line c.args.answers.now) (g.A.LineAnswers.answer_within c.args.answers.now)) (ended_lines text))
    (IsAfter-served g.A.LineAnswers.longest (answer_by g.A.LineAnswers.longest (g.A.LineAnswers.long_line c.args.answers.now) (g.A.LineAnswers.answer_within c.args.answers.now)) served c.clear.ensures.bytes) in
    IsServed-written g.A.LineAnswers.longest (answer_by g.A.LineAnswers.longest (g.A.LineAnswers.long_line c.args.answers.now) (g.A.LineAnswers.answer_within c.args.answers.now)) c.write_whole.result (g.W.Write.contents c.write_whole.new.output.inner)
    c.as_bytes.result.now served after
    c.as_bytes.ensures.value c.write_whole.ensures.ok

pub returns-in-Ok-clause-stop : goal.returns-in-Ok-clause-stop
returns-in-Ok-clause-stop g c start text served =
    let after = c.in-Ok.ensures.ok text (replies_to (answer_by g.A.LineAnswers.longest (g.A.LineAnswers.long_line c.args.answers.now) (g.A.LineAnswers.answer_within c.args.answers.now)) (ended_lines text))
    (IsAfter-served g.A.LineAnswers.longest (answer_by g.A.LineAnswers.longest (g.A.LineAnswers.long_line c.args.answers.now) (g.A.LineAnswers.answer_within c.args.answers.now)) served c.clear.ensures.bytes) in
    IsStop-written g.A.LineAnswers.longest (answer_by g.A.LineAnswers.longest (g.A.LineAnswers.long_line c.args.answers.now) (g.A.LineAnswers.answer_within c.args.answers.now)) c.write_whole.result (g.W.Write.contents c.write_whole.new.output.inner)
    c.write_whole.new.output.failed c.as_bytes.result.now
    served after c.as_bytes.ensures.value c.write_whole.ensures.part c.write_whole.ensures.failed c.write_whole.ensures.fault

pub returns-in-Ok-write_whole-clause-stop : goal.returns-in-Ok-write_whole-clause-stop
returns-in-Ok-write_whole-clause-stop g c start text served =
    let some = c.in-Err.ensures.refused text (replies_to (answer_by g.A.LineAnswers.longest (g.A.LineAnswers.long_line c.args.answers.now) (g.A.LineAnswers.answer_within c.args.answers.now)) (ended_lines text))
    (IsAfter-served g.A.LineAnswers.longest (answer_by g.A.LineAnswers.longest (g.A.LineAnswers.long_line c.args.answers.now) (g.A.LineAnswers.answer_within c.args.answers.now)) served c.clear.ensures.bytes) in
    inl (
      refl,
      AppendsBefore-written g.A.LineAnswers.longest (answer_by g.A.LineAnswers.longest (g.A.LineAnswers.long_line c.args.answers.now) (g.A.LineAnswers.answer_within c.args.answers.now)) start (g.W.Write.contents c.args.output.now.inner)
          (g.W.Write.contents c.write_whole-in-Err.new.output.inner)
          (text ++ c.args.bytes.now) c.as_bytes-in-Err.result.now (string_bytes c.feed.new.out) served some c.as_bytes-in-Err.ensures.value
          c.in-Ok-write_whole.ensures.ok,
    )

pub returns-in-Err-write_whole-clause-stop : goal.returns-in-Err-write_whole-clause-stop
returns-in-Err-write_whole-clause-stop g c start text served =
    let some = c.in-Err.ensures.refused text (replies_to (answer_by g.A.LineAnswers.longest (g.A.LineAnswers.long_line c.args.answers.now) (g.A.LineAnswers.answer_within c.args.answers.now)) (ended_lines text))
    (IsAfter-served g.A.LineAnswers.longest (answer_by g.A.LineAnswers.longest (g.A.LineAnswers.long_line c.args.answers.now) (g.A.LineAnswers.answer_within c.args.answers.now)) served c.clear.ensures.bytes) in
    IsStop-some g.A.LineAnswers.longest (answer_by g.A.LineAnswers.longest (g.A.LineAnswers.long_line c.args.answers.now) (g.A.LineAnswers.answer_within c.args.answers.now)) start (g.W.Write.contents c.args.output.now.inner)
    (g.W.Write.contents c.write_whole-in-Err.new.output.inner)
    c.write_whole-in-Err.new.output.failed (text ++ c.args.bytes.now) c.as_bytes-in-Err.result.now (string_bytes c.feed.new.out)
    (Err c.in-Err-write_whole.fault) served some c.as_bytes-in-Err.ensures.value c.in-Err-write_whole.ensures.part
    c.in-Err-write_whole.ensures.failed c.in-Err-write_whole.ensures.fault
