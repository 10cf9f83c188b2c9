use Rattle.std.proofs.{Common.length, Common.string_bytes}
use Rattle.rlp_lines.specs.Replies.{answer_by}
use Rattle.rlp_lines.proofs.ProgressLemmas.{IsFeeding}
use Rattle.rlp_lines.proofs.line.Line.feed.Given as goal

abbrev pub invariant-loop-at : goal.invariant-loop-at
invariant-loop-at g l =
    IsFeeding g.A.LineAnswers.longest (answer_by g.A.LineAnswers.longest (g.A.LineAnswers.long_line l.fn.answers) (g.A.LineAnswers.answer_within l.fn.answers)) (string_bytes l.initial.out) l.initial.self (string_bytes l.out)
    l.self l.bytes l.rest

abbrev pub decreases-loop-at : goal.decreases-loop-at
decreases-loop-at g l = length l.rest
