use Rattle.std.proofs.{Common.{sym, ◌∙◌}, lemmas.Result.{IfErr-weaker, err_from_is_err_and}}
use Rattle.rlp_node_record.proofs.Texts.{bytes_fault, text_fault}
use Rattle.rlp_node_record.proofs.node_record.NodeRecord.from_text.Goals as goal

pub returns-in_err-bytes-clause-fault : goal.returns-in_err-bytes-clause-fault
returns-in_err-bytes-clause-fault c =
    let p = err_from_is_err_and c.from_residual.result c.from_residual.ensures.1 in
    rw (p.1, p.2) (text_fault c.args.text.now c.in-Some.digits.now c.in_err-bytes.field-0.0 (sym c.as_bytes.ensures.value ∙ c.in-Some.ensures)
    c.in_err-bytes.ensures.fault)

pub returns-clause-fault : goal.returns-clause-fault
returns-clause-fault c = IfErr-weaker c.decode_whole.result _ _
    (λ e bad. bytes_fault c.args.text.now c.in-Some.digits.now c.in_ok-bytes.bytes.items c.as_slice.result.now e c.in_ok-bytes.ensures.bytes
    (sym c.as_bytes.ensures.value ∙ c.in-Some.ensures) c.in_ok-bytes.ensures.value c.as_slice.ensures.value bad)
    c.decode_whole.ensures.fault
