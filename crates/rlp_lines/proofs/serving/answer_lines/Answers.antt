use Rattle.std.proofs.{Common.{◌++◌, [], Bool, take, subst, sym, append-nil, length-take, arith, rules, refl, ◌∙◌}, KnownBytes.Consumes-trans, lemmas.Result.{err_from_is_err_and}}
use Rattle.std.specs.Io.KnownBytes.{Consumes}
use Rattle.rlp_lines.proofs.ProgressLemmas.{Consumes-none, IsRunning-begin, IsRunning-more, RunLeaves-end, RunLeaves-stop}
use Rattle.rlp_lines.proofs.serving.answer_lines.Goals as goal

pub reading-init : goal.reading-init
reading-init g c = record {
  running = IsRunning-begin _ _ (g.R.Read.remaining c.args.input.now.inner) (g.W.Write.contents c.args.output.now.inner) c.new-line.result
      (c.new-line.ensures.empty g.A.LineAnswers.longest) c.new-line.ensures.none;
  input = c.requires.input;
  output = c.requires.output;
}

pub reading-preserved : goal.reading-preserved
reading-preserved g c =
    let running = c.reading.invariant.running in
    record {
      running = IsRunning-more _ _ (g.R.Read.remaining c.read.new.self.inner) (g.W.Write.contents c.serve.new.output.inner)
          (take c.in-Ok.count c.read.new.buf) running c.in-Ok.ensures.bytes.0
          (c.in_ok-serve.ensures.ok (g.W.Write.contents c.args.output.now.inner) running.took running.served);
      input = c.in-Ok.ensures.ok ∙ c.reading.invariant.input;
      output = c.in_ok-serve.ensures.kept ∙ c.reading.invariant.output;
    }

pub returns-then-count-eq0-clause-leaves : goal.returns-then-count-eq0-clause-leaves
returns-then-count-eq0-clause-leaves g c =
    let running = c.reading.invariant.running in
    RunLeaves-end _ _ g.R.Read.remaining g.W.Write.contents c.args.input.now c.read.new.self c.args.output.now c.finish.new.output
    c.is_faulty.result running (Consumes-none _ _ _ _ c.if-count-eq0.true c.in-Ok.ensures.bytes.0)
    (c.in-Ok.ensures.bytes.1 c.if-count-eq0.true (search rules)) (c.in-Ok.ensures.ok ∙ c.reading.invariant.input)
    (c.in_ok-finish.ensures.ok (g.W.Write.contents c.args.output.now.inner) running.took running.served)
    (c.in_ok-finish.ensures.kept ∙ c.reading.invariant.output) c.in_ok-finish.ensures.flushed

pub returns-then-count-eq0-clause-faulty : goal.returns-then-count-eq0-clause-faulty
returns-then-count-eq0-clause-faulty g c =
    let running = c.reading.invariant.running in
    record {
      took = running.took;
      read = subst (Consumes (g.R.Read.remaining c.args.input.now.inner) (g.R.Read.remaining c.read.new.self.inner)) (append-nil running.took)
          (Consumes-trans (g.R.Read.remaining c.args.input.now.inner) (g.R.Read.remaining c.reading.input.inner)
          (g.R.Read.remaining c.read.new.self.inner) running.took [] running.read
          (Consumes-none _ _ _ _ c.if-count-eq0.true c.in-Ok.ensures.bytes.0));
      told = c.is_faulty.ensures ∙ c.in_ok-finish.ensures.noted (g.W.Write.contents c.args.output.now.inner) running.took running.served;
    }

pub returns-in_err-finish-clause-leaves : goal.returns-in_err-finish-clause-leaves
returns-in_err-finish-clause-leaves g c =
    let running = c.reading.invariant.running in
    let p = err_from_is_err_and c.from_residual.result c.from_residual.ensures.1 in
    rw (p.1, p.2) (RunLeaves-stop _ _ Bool g.R.Read.remaining g.W.Write.contents c.args.input.now c.read.new.self c.args.output.now
    c.finish.new.output c.in_err-finish.field-0.0 running.took [] running
    (Consumes-none _ _ _ _ c.if-count-eq0.true c.in-Ok.ensures.bytes.0) (omega arith) (sym (append-nil running.took))
    (c.in_err-finish.ensures.stop (g.W.Write.contents c.args.output.now.inner) running.took running.served))

pub returns-in_err-serve-clause-leaves : goal.returns-in_err-serve-clause-leaves
returns-in_err-serve-clause-leaves g c =
    let running = c.reading.invariant.running in
    let p = err_from_is_err_and c.from_residual-in_err-serve.result c.from_residual-in_err-serve.ensures.1 in
    rw (p.1, p.2) (RunLeaves-stop _ _ Bool g.R.Read.remaining g.W.Write.contents c.args.input.now c.read.new.self c.args.output.now
    c.serve.new.output c.in_err-serve.field-0.0 (running.took ++ take c.in-Ok.count c.read.new.buf) (take c.in-Ok.count c.read.new.buf) running
    c.in-Ok.ensures.bytes.0 (omega (arith, length-take c.in-Ok.count c.read.new.buf)) refl
    (c.in_err-serve.ensures.stop (g.W.Write.contents c.args.output.now.inner) running.took running.served))
