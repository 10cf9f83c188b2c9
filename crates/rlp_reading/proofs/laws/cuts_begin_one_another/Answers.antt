use Rattle.rlp_reading.proofs.Lemmas.Frames.{cuts_begin}
use Rattle.rlp_reading.proofs.laws.cuts_begin_one_another.Goals as goal

pub returns : goal.returns
returns c = cuts_begin c.args.bytes.now
