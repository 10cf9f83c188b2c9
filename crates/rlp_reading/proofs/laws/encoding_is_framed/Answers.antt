use Rattle.std.proofs.Common.{arith}
use Rattle.rlp_format.proofs.Lemmas.Encodings.{front_sized}
use Rattle.rlp_reading.proofs.Lemmas.Frames.{encoding_framed}
use Rattle.rlp_reading.proofs.laws.encoding_is_framed.Goals as goal

pub returns : goal.returns
returns c = λ x (more, is). encoding_framed x _ (front_sized x _ more (omega arith) is) (more, is)
