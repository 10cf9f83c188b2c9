use Rattle.rlp_lines.proofs.DigitLemmas.{digits_are_text}
use Rattle.rlp_lines.proofs.digits.push_few.Goals as goal

pub from_utf8_unchecked-requires : goal.from_utf8_unchecked-requires
from_utf8_unchecked-requires c = digits_are_text c.args.bytes.now _ c.put_digits.ensures
