use Rattle.std.proofs.Common.{arith}
use Rattle.rlp_format.proofs.Lemmas.Digits.{bytes_held}
use Rattle.rlp_reading.proofs.Lemmas.Strings.{string_reads, string_only}
use Rattle.rlp.proofs.laws.reading.string_is_read.Goals as goal

pub returns : goal.returns
returns c = record { read = string_reads _ (bytes_held _ c.type_inv.bytes) (omega arith); only = λ d is. string_only _ d (omega arith) is }
