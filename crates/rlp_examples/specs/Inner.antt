-- How the pairs of a nest are written and read.
use Rattle.rlp.specs.Codec.{Codec, end, field, number, struct_of}
use Rattle.rlp_examples.specs.declared.inner.Inner.{Inner}

-- the list of two numbers
abbrev pub inner : Codec Inner
inner = struct_of (field (λ (p : Inner). p.0) (number 8) (field (λ (p : Inner). p.1) (number 8) end))
