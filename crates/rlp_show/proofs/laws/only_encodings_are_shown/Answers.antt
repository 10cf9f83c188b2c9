use Rattle.std.proofs.Common.{◌∙◌, sym, ap, arith}
use Rattle.rlp_show.proofs.LineLemmas.{line_answered, line_slice, only_read}
use Rattle.rlp_show.proofs.laws.only_encodings_are_shown.Goals as goal

pub returns : goal.returns
returns g c = λ kind shown bytes v shows is ok. (
  only_read g.T.Encodable.fits g.T.Encodable.item g.T.Decodable.reading g.met.T.StrictRead.strict.exact shown bytes v (line_slice c.args.line.now bytes (omega arith) is)
      (sym (ap (λ s. s.result) (shows bytes)) ∙ ok),
  line_answered kind c.args.line.now bytes v is ok,
)
