use Rattle.std.proofs.Common.{arith}
use Rattle.rlp_format.proofs.Lemmas.Digits.{bytes_held}
use Rattle.rlp_reading.proofs.Corollaries.{gives_strictly}
use Rattle.rlp.proofs.laws.strict.whole_encoding_is_read.Goals as goal

pub returns : goal.returns
returns g c = λ v. gives_strictly _ g.met.T.StrictRead.strict _ v (bytes_held _ c.type_inv.bytes) (omega arith)
