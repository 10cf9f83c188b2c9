use Rattle.std.proofs.Common.{rules}
use Rattle.rlp_reading.proofs.Pieces.{ascii_and_digits}
use Rattle.rlp_reading.proofs.text.buffer.TextBuffer.push_digits.Goals as goal

pub invariant_of-self : goal.invariant_of-self
invariant_of-self c = (search rules, ascii_and_digits c.self.inside.room c.args.bytes.now c.put_digits.new.digits _ _ _ c.self.invariant.1 c.put_digits.ensures (search rules) (search rules))
