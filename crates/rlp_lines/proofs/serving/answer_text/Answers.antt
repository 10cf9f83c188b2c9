use Rattle.std.proofs.{Common.{[], ◌∙◌}, lemmas.Result.err_from_is_err_and}
use Rattle.rlp_lines.proofs.ProgressLemmas.{IsServed-begin, TextLeaves-stop}
use Rattle.rlp_lines.proofs.serving.answer_text.Goals as goal

pub returns-in_err-serve : goal.returns-in_err-serve
returns-in_err-serve g c =
    let start = g.W.Write.contents c.args.output.now.inner in
    let line = c.new-line in
    let p = err_from_is_err_and c.from_residual.result c.from_residual.ensures.1 in
    rw (p.1, p.2) (TextLeaves-stop g.A.LineAnswers.longest _ g.W.Write.contents c.args.output.now c.serve.new.output c.in_err-serve.field-0.0 []
    c.args.text.now (c.in_err-serve.ensures.stop start []
    (IsServed-begin _ _ start line.result (line.ensures.empty g.A.LineAnswers.longest) line.ensures.none)))

pub returns-in_err-finish : goal.returns-in_err-finish
returns-in_err-finish g c =
    let start = g.W.Write.contents c.args.output.now.inner in
    let line = c.new-line in
    let p = err_from_is_err_and c.from_residual-in_err-finish.result c.from_residual-in_err-finish.ensures.1 in
    rw (p.1, p.2) (TextLeaves-stop g.A.LineAnswers.longest _ g.W.Write.contents c.args.output.now c.finish.new.output c.in_err-finish.field-0.0
    c.args.text.now c.args.text.now (c.in_err-finish.ensures.stop start c.args.text.now (c.in_ok-serve.ensures.ok start []
    (IsServed-begin _ _ start line.result (line.ensures.empty g.A.LineAnswers.longest) line.ensures.none))))

pub returns : goal.returns
returns g c =
    let start = g.W.Write.contents c.args.output.now.inner in
    let line = c.new-line in
    let served = c.in_ok-serve.ensures.ok start []
    (IsServed-begin _ _ start line.result (line.ensures.empty g.A.LineAnswers.longest) line.ensures.none) in (
      c.in_ok-finish.ensures.ok start c.args.text.now served,
      c.is_faulty.ensures ∙ c.in_ok-finish.ensures.noted start c.args.text.now served,
      c.in_ok-finish.ensures.kept ∙ c.in_ok-serve.ensures.kept ∙ c.requires,
      c.in_ok-finish.ensures.flushed,
    )
