use Rattle.std.proofs.Common.{arith}
use Rattle.rlp_c.proofs.Texts.{no_row}
use Rattle.rlp_c.proofs.values.string_row.Goals as goal

pub returns-in-Err : goal.returns-in-Err
returns-in-Err c = no_row c.args.bytes.now c.args.string.now c.in-Err.field-0 (omega arith) c.requires c.in-Err.ensures.exact
