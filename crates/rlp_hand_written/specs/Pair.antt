-- How pairs are written and read.
use Rattle.rlp.specs.Codec.{Codec, end, field, number, struct_of}
use Rattle.rlp_hand_written.specs.declared.pair.Pair.{Pair}

-- the list of two numbers
abbrev pub pair : Codec Pair
pair = struct_of (field (λ (p : Pair). p.0) (number 8) (field (λ (p : Pair). p.1) (number 8) end))
