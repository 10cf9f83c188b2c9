use Rattle.std.proofs.Common.{◌≡◌, subst, sym}
use Rattle.rlp_records.proofs.Scanning.{one_counted}
use Rattle.rlp_records.specs.Bounded.{enveloped_items}
use Rattle.rlp_records.proofs.envelope_items.enveloped_items.Goals as goal

pub returns-in-Some : goal.returns-in-Some
returns-in-Some c x is =
    subst (λ envelopes. c.items_in_envelopes.result ≡ enveloped_items envelopes x) (sym c.in-Some.is)
    (one_counted c.in-Some.depth c.items_in_envelopes.result c.args.bytes.now c.items_in_envelopes.ensures.count x is)
