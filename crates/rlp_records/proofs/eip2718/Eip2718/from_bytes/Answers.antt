use Rattle.std.proofs.Common.{arith}
use Rattle.rlp_format.proofs.Lemmas.Digits.{bytes_held}
use Rattle.rlp_records.proofs.{Bytes.{read_memory, read_whole}, TypedSums.typed_strings}
use Rattle.rlp_records.proofs.eip2718.Eip2718.from_bytes.Goals as goal

pub returns-clause-whole : goal.returns-clause-whole
returns-clause-whole g c =
    read_whole _ _ _ _ _ (typed_strings g.Self.Eip2718.types) c.args.bytes.now (omega arith) (bytes_held c.args.bytes.now c.type_inv.bytes) c.read_alone.result c.read_alone.ensures.value

pub returns-clause-memory : goal.returns-clause-memory
returns-clause-memory g c = λ x fit is.
    read_memory _ _ _ _ _ (typed_strings g.Self.Eip2718.types) c.args.bytes.now (omega arith) _ x fit is c.read_alone.result c.read_alone.ensures.fault
