use Rattle.std.proofs.Common.{Some, arith, inl, inr, is_ok, sym, ap, ◌∙◌, ⊎_elim}
use Rattle.rlp.proofs.Counting.{count_refused, fault_at, listed}
use Rattle.rlp.proofs.structs.first_fault.Goals as goal

pub returns-then-accepts-clause-place : goal.returns-then-accepts-clause-place
returns-then-accepts-clause-place g c =
    let r = g.F.DecodeFields.reading in
    let v = c.args.rlp.now in
    let count = sym c.in-Ok.ensures in
    ⊎_elim (λ f. inl ((fault_at r v _ _ _ count f (sym c.if-accepts.ensures)).place ∙ ap Some (omega (arith, c.saturating_sub.ensures, c.saturating_sub-then-accepts.ensures))))
    (λ lack. inr (lack.0, (lack.1, ap is_ok (listed r v _ count))))
    (c.requires.found (listed r v _ count))

pub returns-clause-place : goal.returns-clause-place
returns-clause-place g c =
    inl (count_refused g.F.DecodeFields.reading c.args.rlp.now _ (sym c.in-Ok.ensures) (sym c.if-accepts.ensures)).place
