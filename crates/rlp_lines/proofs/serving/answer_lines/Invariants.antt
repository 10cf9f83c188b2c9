use Rattle.std.proofs.Common.{◌≡◌, ◌-◌, ◌^◌, false}
use Rattle.rlp_lines.specs.Replies.{answer_by}
use Rattle.rlp_lines.proofs.ProgressLemmas.{IsRunning}
use Rattle.rlp_lines.proofs.serving.answer_lines.Given as goal

abbrev pub invariant-reading : goal.invariant-reading
invariant-reading g l = record {
  running : IsRunning g.A.LineAnswers.longest (answer_by g.A.LineAnswers.longest (g.A.LineAnswers.long_line l.fn.answers) (g.A.LineAnswers.answer_within l.fn.answers)) (g.R.Read.remaining l.fn.input.inner) (g.R.Read.remaining l.input.inner)
      (g.W.Write.contents l.fn.output.inner)
      (g.W.Write.contents l.output.inner) l.line;
  input : l.input.failed ≡ false;
  output : l.output.failed ≡ false;
}

abbrev pub decreases-reading : goal.decreases-reading
decreases-reading g l = 2 ^ 64 - 1 - l.input.reads
