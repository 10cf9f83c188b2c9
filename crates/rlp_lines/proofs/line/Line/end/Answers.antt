use Rattle.rlp_lines.specs.{Replies.{answer_by, is_fault}, Lines.last_piece}
use Rattle.std.proofs.Common.{◌++◌, ◌∙◌, ◌||◌, ap}
use Rattle.rlp_lines.proofs.ProgressLemmas.{IsAfter-line, IsAfter-whole}
use Rattle.rlp_lines.proofs.line.Line.end.Goals as goal

pub returns-clause-ok : goal.returns-clause-ok
returns-clause-ok g c text written before one =
    IsAfter-line _ _ c.args.run.now before one (c.in_ok-reply.ensures.ok (last_piece text ++ c.args.run.now)
    (c.in_ok-extend.ensures.ok (last_piece text) before.begun)) (c.clear.ensures.empty g.A.LineAnswers.longest)
    (c.clear.ensures.kept ∙ c.in_ok-reply.ensures.noted (last_piece text ++ c.args.run.now) (c.in_ok-extend.ensures.ok (last_piece text) before.begun)
    ∙ ap (λ b. b || is_fault (answer_by g.A.LineAnswers.longest (g.A.LineAnswers.long_line c.args.answers.now) (g.A.LineAnswers.answer_within c.args.answers.now)) (last_piece text ++ c.args.run.now)) c.extend.ensures.kept)

pub returns-then-run-longest-clause-ok : goal.returns-then-run-longest-clause-ok
returns-then-run-longest-clause-ok g c text written before one =
    IsAfter-whole _ _ c.reply_to.result _ c.reply_to.new.self c.args.run.now before one ((c.is_empty.ensures g.A.LineAnswers.longest (last_piece text) before.begun).0 c.if-is_empty.true)
    c.reply_to.ensures.ok c.reply_to.ensures.noted c.reply_to.ensures.kept
