use Rattle.rlp_format.proofs.Lemmas.Digits.{bytes_held}
use Rattle.rlp_reading.proofs.Lemmas.Frames.{split_longest, split_only}
use Rattle.rlp_reading.proofs.laws.split_is_longest.Goals as goal

pub returns : goal.returns
returns c =
    let bytes = bytes_held c.args.bytes.now c.type_inv.bytes in
    record { longest = split_longest c.args.bytes.now bytes; only = λ fs is. split_only c.args.bytes.now fs bytes is }
