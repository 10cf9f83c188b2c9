use Rattle.std.proofs.Common.{◌≡◌, true, ap, sym, ◌∙◌}
use Rattle.rlp_reading.specs.Views.View.{View}
use Rattle.rlp.proofs.Readers.{strict_by}
use Rattle.rlp.proofs.rlpin.rlp.Rlp.counted_items.Goals as goal

pub returns-then-self-clause-count : goal.returns-then-self-clause-count
returns-then-self-clause-count c =
    let strict : c.args.self.now.is_strict ≡ true = sym (ap (λ (v : View). v.is_strict) c.self.view_is) ∙ c.if-self.true in
    strict_by c.args.self.now c.strict_items.result strict c.strict_items.ensures.fault c.strict_items.ensures.count
