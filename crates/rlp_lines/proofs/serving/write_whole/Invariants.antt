use Rattle.std.proofs.Common.{◌≡◌, length}
use Rattle.rlp_lines.proofs.ProgressLemmas.{IsWriting}
use Rattle.rlp_lines.proofs.serving.write_whole.Given as goal

abbrev pub invariant-loop-rest : goal.invariant-loop-rest
invariant-loop-rest g l = record {
  writing : IsWriting (g.W.Write.contents l.fn.output.inner) (g.W.Write.contents l.output.inner) l.bytes l.rest;
  kept : l.output.failed ≡ l.fn.output.failed;
}

abbrev pub decreases-loop-rest : goal.decreases-loop-rest
decreases-loop-rest g l = length l.rest
