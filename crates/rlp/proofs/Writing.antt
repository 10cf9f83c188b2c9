-- For authors of types: the rules for a body of `rlp_append` that writes a string, or a list step by step.
use Rattle.rlp_write.proofs.Streams.Filling.{filling}

pub ruleset writing = filling
