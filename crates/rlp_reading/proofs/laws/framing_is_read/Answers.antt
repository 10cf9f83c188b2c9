use Rattle.rlp_format.proofs.Lemmas.Digits.{bytes_held}
use Rattle.rlp_reading.proofs.Lemmas.Frames.{frame_is, value_is, fault_reads}
use Rattle.rlp_reading.proofs.laws.framing_is_read.Goals as goal

pub returns : goal.returns
returns c =
    let bytes = bytes_held c.args.bytes.now c.type_inv.bytes in
    record { frame = frame_is c.args.bytes.now; value = value_is c.args.bytes.now; fault = fault_reads c.args.bytes.now bytes }
