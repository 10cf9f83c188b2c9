use Rattle.std.proofs.Common.{Some, None, sym}
use Rattle.rlp_tool.specs.Pieces.{bytes_of}
use Rattle.rlp_tool.proofs.CutLemmas.{raw_parts-cut}
use Rattle.rlp_tool.proofs.script.read_raw.Goals as goal

pub returns-in-Some-digits_in : goal.returns-in-Some-digits_in
returns-in-Some-digits_in c = (
  c.in-Some-digits_in.ensures.0,
  sym (raw_parts-cut _ _ _ _ (Some c.in-Some-read_number.count) (Some (bytes_of c.in-Some-digits_in.digits.now))
      c.in-Some.ensures c.split_at.ensures.front c.split_at.ensures.back c.in-Some-read_number.ensures (sym c.in-Some-digits_in.ensures.1)),
)

pub returns-in-None : goal.returns-in-None
returns-in-None c = sym (raw_parts-cut _ _ _ _ (Some c.in-Some-read_number.count) None
    c.in-Some.ensures c.split_at.ensures.front c.split_at.ensures.back c.in-Some-read_number.ensures (sym c.in-None.ensures))
