use Rattle.std.proofs.{Common.{◌∙◌, refl, string_bytes, sym}, lemmas.Result.on_err_weaker}
use Rattle.rlp_lines.proofs.{ProgressLemmas.{IsFeeding-line, IsFeeding-end, IsFeeding-refused, OnErr-always}, LinesLemmas.some_byte}
use Rattle.rlp_lines.proofs.line.Line.feed.Goals as goal

pub loop-at-preserved : goal.loop-at-preserved
loop-at-preserved g c =
    IsFeeding-line _ _ c.loop-at.rest.now c.split_at.result.0.now c.split_at.result.1.now c.in-Some.at
    c.loop-at.invariant (sym c.in-Some.ensures)
    c.split_at.ensures.front c.split_at.ensures.back c.in_ok-end.ensures.ok

pub returns-in_err-end-clause-refused : goal.returns-in_err-end-clause-refused
returns-in_err-end-clause-refused g c text written before =
    OnErr-always c.from_residual.result (IsFeeding-refused _ _ c.loop-at.rest.now (string_bytes c.end.new.out)
    c.loop-at.invariant
    c.in_err-end.ensures.refused text written before (some_byte c.loop-at.rest.now c.in-Some.at (sym c.in-Some.ensures)))

pub returns-clause-refused : goal.returns-clause-refused
returns-clause-refused g c text written before =
    on_err_weaker c.extend.result
    (IsFeeding-refused _ _ c.loop-at.rest.now (string_bytes c.loop-at.out) c.loop-at.invariant refl text written before)
    c.extend.ensures.refused

pub returns-clause-ok : goal.returns-clause-ok
returns-clause-ok g c text written before =
    IsFeeding-end _ _ c.extend.result c.loop-at.rest.now c.extend.new.self
    c.loop-at.invariant
    (sym c.newline_at.ensures ∙ c.in_default.is) text written before c.extend.ensures.ok c.extend.ensures.kept
