use Rattle.std.proofs.Common.{◌≡◌, ◌++◌, List, OnOk, string_bytes, subst, ℕ}
use Rattle.rlp_tool.proofs.AnswerLemmas.{answer-failed, answer-made}
use Rattle.rlp_tool.proofs.answer.script_answer.Goals as goal

pub returns-in-Ok : goal.returns-in-Ok
returns-in-Ok c =
    let test = c.raw_items_pass_the_test.ensures in
    subst (λ (answer : List ℕ). OnOk c.put_result.result (string_bytes c.put_result.new.out ≡ string_bytes c.args.out.now ++ answer))
    (answer-made test.pass test.only c.args.text.now c.in-Ok.stream.state c.in-Ok.ensures.ok) c.put_result.ensures

pub returns-in-Err : goal.returns-in-Err
returns-in-Err c =
    let test = c.raw_items_pass_the_test.ensures in
    answer-failed test.pass test.only c.put_script_fault.result c.args.text.now (string_bytes c.args.out.now) (string_bytes c.put_script_fault.new.out) c.in-Err.fault
    c.in-Err.ensures.refused c.put_script_fault.ensures
