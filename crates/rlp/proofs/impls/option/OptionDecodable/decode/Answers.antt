use Rattle.std.proofs.Common.{ap, inl}
use Rattle.rlp_reading.specs.Form.{and_then, read_option}
use Rattle.rlp_reading.proofs.ListLaws.{items_faulty}
use Rattle.rlp.proofs.impls.option.OptionDecodable.decode.Goals as goal

pub returns-in-Err-clause-fault : goal.returns-in-Err-clause-fault
returns-in-Err-clause-fault g c =
    inl (ap (λ i. and_then i (λ vs. (read_option g.T.Decodable.reading.read vs).result)) (items_faulty c.args.rlp.now _ c.in-Err.ensures))
