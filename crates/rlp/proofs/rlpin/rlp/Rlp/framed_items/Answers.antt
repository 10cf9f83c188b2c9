use Rattle.std.proofs.Common.{◌≡◌, true, ap, sym, ◌∙◌}
use Rattle.rlp_reading.specs.{Format.Framing.strict_fault, Views.View.View}
use Rattle.rlp.proofs.Readers.{strict_unframed}
use Rattle.rlp_reading.proofs.Lemmas.Fronts.{propagated}
use Rattle.rlp.proofs.rlpin.rlp.Rlp.framed_items.Goals as goal

pub returns-in_err-list-clause-fault : goal.returns-in_err-list-clause-fault
returns-in_err-list-clause-fault c =
    let same : c.self.inside.bytes.now ≡ c.args.self.now.bytes = ap (λ (v : View). v.bytes) c.self.view_is in
    let strict : c.args.self.now.is_strict ≡ true = sym (ap (λ (v : View). v.is_strict) c.self.view_is) ∙ c.if-not-self.false in
    propagated _ _ _ _ c.from_residual.ensures (strict_unframed c.args.self.now _ strict (sym c.if-not-is_list.ensures) (ap strict_fault (sym same) ∙ c.in_err-list.ensures.fault))
