use Rattle.std.proofs.{Common.{rules, subst}, lemmas.Result.{IfOk-weaker, err_from_is_err_and}}
use Rattle.rlp.specs.Streams.Stream.{initial_state}
use Rattle.rlp_tool.specs.{Building.WantsMemory, Making.{AreMade}, RawItems.is_shallow, StreamCalls.calls_of}
use Rattle.rlp_tool.proofs.{CallsLemmas.{all_taken, built, described_built, described_refused, joined_built, refused_open, OnOk-all, all_made, one_fails}}
use Rattle.rlp_tool.proofs.building.build.Goals as goal

pub returns : goal.returns
returns g c =
    let all = calls_of g.E.Encodable.item c.args.calls.now in
    let front = c.args.front.items in
    let s = c.make_calls.new.stream.state in
    let law = c.stream_joins_what_is_described.ensures in
    let any = law.restricted_steps is_shallow front all in
    let made : AreMade (initial_state front) all s = subst (λ u. AreMade u all s) c.new_with_buffer-stream.ensures.state
    (all_made WantsMemory all _ _ _ _ s c.in_ok-make_calls.ensures.made c.in_ok-make_calls.ensures.ended) in
    let ok = IfOk-weaker c.held.result _ _ (built front all s made any (law.payloads front all)) c.held.ensures.ok in
    record {
      ok = ok;
      refused = refused_open front all s c.held.result made c.held.ensures.refused c.held.ensures.unfinished;
      taken = OnOk-all c.held.result (all_taken front all s made any (law.payloads front all));
      joined = IfOk-weaker c.held.result _ _ (joined_built front all s made any (law.payloads front all)) c.held.ensures.ok;
      described = λ items d. IfOk-weaker c.held.result _ _ (λ b. described_built front all items b (law.finished front all items d)) ok;
      described_refused = search rules;
    }

pub returns-in_err-make_calls-clause-refused : goal.returns-in_err-make_calls-clause-refused
returns-in_err-make_calls-clause-refused g c =
    let p = err_from_is_err_and c.from_residual.result c.from_residual.ensures.1 in
    rw (p.1, p.2) (one_fails c.args.front.items (calls_of g.E.Encodable.item c.args.calls.now) _ _ _ _
    (rw c.new_with_buffer-stream.ensures.state at c.in_err-make_calls.ensures.made))

pub returns-in_err-make_calls-clause-described : goal.returns-in_err-make_calls-clause-described
returns-in_err-make_calls-clause-described g c = λ items d.
    let p = err_from_is_err_and c.from_residual.result c.from_residual.ensures.1 in rw p.1 tt

pub returns-in_err-make_calls-clause-described_refused : goal.returns-in_err-make_calls-clause-described_refused
returns-in_err-make_calls-clause-described_refused g c = λ items d.
    let p = err_from_is_err_and c.from_residual.result c.from_residual.ensures.1 in
    let front = c.args.front.items in
    let all = calls_of g.E.Encodable.item c.args.calls.now in
    rw (p.1, p.2) (described_refused front all items _ d
    (one_fails front all _ _ _ _ (rw c.new_with_buffer-stream.ensures.state at c.in_err-make_calls.ensures.made)))
