use Rattle.rlp_format.proofs.Lemmas.Digits.{bytes_held}
use Rattle.rlp_reading.proofs.Lemmas.Views.{rest_unframed}
use Rattle.rlp_reading.proofs.laws.rest_is_not_framed.Goals as goal

pub returns : goal.returns
returns c = rest_unframed c.args.bytes.now (bytes_held c.args.bytes.now c.type_inv.bytes)
