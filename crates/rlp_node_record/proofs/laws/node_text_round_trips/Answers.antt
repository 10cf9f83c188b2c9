use Rattle.std.proofs.{Common.{sym, ◌∙◌}, lemmas.Result.{IfErr-weaker, IfOk-weaker}}
use Rattle.rlp_node_record.proofs.Texts.{text_fails, texts_told}
use Rattle.rlp_node_record.proofs.laws.node_text_round_trips.Goals as goal

pub returns-clause-same : goal.returns-clause-same
returns-clause-same c = IfOk-weaker c.from_text.result _ _
    (λ r is. texts_told r c.args.node.now is.0 c.fields-fields.ensures.record (sym is.1 ∙ c.as_str.ensures.value ∙ c.in_ok-text.ensures)) c.from_text.ensures.value

pub returns-clause-memory : goal.returns-clause-memory
returns-clause-memory c = IfErr-weaker c.from_text.result _ _
    (λ e bad. text_fails c.as_str.result.now c.args.node.now e c.fields-fields.ensures.record (c.as_str.ensures.value ∙ c.in_ok-text.ensures) bad)
    c.from_text.ensures.fault

pub returns-clause-only : goal.returns-clause-only
returns-clause-only c = λ other is same. texts_told other c.args.node.now is c.fields-fields.ensures.record same

pub returns-in_err-text-clause-only : goal.returns-in_err-text-clause-only
returns-in_err-text-clause-only c = λ other is same. texts_told other c.args.node.now is c.fields-fields.ensures.record same
