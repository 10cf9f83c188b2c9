use Rattle.std.proofs.Common.{ap, refl, sym}
use Rattle.rlp_show.specs.{Shown.kind_shown, Transactions.signed_authorization_display}
use Rattle.rlp_show.proofs.LineLemmas.{put_as}
use Rattle.rlp_show.proofs.known.put_known.Goals as goal

pub returns-in-Authorization : goal.returns-in-Authorization
returns-in-Authorization c =
    put_as _ _ _ _ _ _ _ _ _ (ap (λ k. kind_shown k c.args.given.now.bytes.now) (sym c.in-Authorization.is))
    (c.put_record-in-Authorization.ensures signed_authorization_display.shown (λ x. refl))
