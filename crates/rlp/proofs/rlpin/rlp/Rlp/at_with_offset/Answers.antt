use Rattle.std.proofs.{Common.{◌≡◌, Ok, sym, ◌∙◌, ap, arith}, lemmas.Result.{err_from_is_err_and}}
use Rattle.rlp_reading.specs.{Format.Framing.{fault, framing, split, value}, Views.View.View}
use Rattle.rlp_reading.proofs.Lemmas.Numbered.{not_framed_item, not_told_item, skipped-end, skipped-past}
use Rattle.rlp.proofs.rlpin.rlp.Rlp.at_with_offset.Goals.{After-skip_items}
use Rattle.rlp.proofs.rlpin.rlp.Rlp.at_with_offset.Goals as goal

framed : (c : After-skip_items) → framing c.args.self.now.bytes ≡ Ok c.in_ok-list.list.header
framed c = ap (λ (v : View). framing v.bytes) (sym c.self.view_is) ∙ c.in_ok-list.ensures.header

content : (c : After-skip_items) → value c.args.self.now.bytes ≡ Ok c.in_ok-list.list.content.now
content c = ap (λ (v : View). value v.bytes) (sym c.self.view_is) ∙ c.in_ok-list.ensures.value

pub returns-in_err-check_items : goal.returns-in_err-check_items
returns-in_err-check_items c =
    let p = err_from_is_err_and c.from_residual.result c.from_residual.ensures.1 in
    rw (p.1, p.2) (not_told_item c.args.self.now c.args.index c.in_err-check_items.field-0.0 c.in_err-check_items.ensures)

pub returns-in_err-list : goal.returns-in_err-list
returns-in_err-list c =
    let p = err_from_is_err_and c.from_residual-in_err-list.result c.from_residual-in_err-list.ensures.1 in
    rw (p.1, p.2) (not_framed_item c.args.self.now c.args.index c.in_err-list.field-0.0 c.in_ok-check_items.ensures
    (ap (λ (v : View). framing v.bytes) (sym c.self.view_is) ∙ c.in_err-list.ensures.header))

pub returns-in_err-rest : goal.returns-in_err-rest
returns-in_err-rest c =
    let p = err_from_is_err_and c.from_residual-in_err-rest.result c.from_residual-in_err-rest.ensures.1 in
    let a = (goal.at.returns-in_err-rest c).After-skip_items in
    rw (p.1, p.2) (skipped-past c.args.self.now c.args.index c.in_ok-list.list.header c.in_ok-list.list.content.now c.in_err-rest.field-0.0
    c.in_ok-check_items.ensures (framed a) (content a) (omega (arith, c.in_err-rest.ensures.0)) c.in_err-rest.ensures.1)

pub returns-in_err-item : goal.returns-in_err-item
returns-in_err-item c =
    let p = err_from_is_err_and c.from_residual-in_err-item.result c.from_residual-in_err-item.ensures.1 in
    let a = (goal.at.returns-in_err-item c).After-skip_items in
    rw (p.1, p.2) (skipped-end c.args.self.now c.args.index c.in_ok-list.list.header c.in_ok-rest.rest.now c.in_ok-list.list.content.now
    c.in_err-item.field-0.0 c.in_ok-check_items.ensures (framed a) (content a) c.in_ok-rest.ensures
    (ap split (sym c.new.ensures.rest) ∙ c.in_err-item.ensures.parts) (c.in_err-item.ensures.whole ∙ ap fault c.new.ensures.rest))
