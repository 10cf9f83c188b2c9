-- How addresses are written and read.
use Rattle.rlp.specs.Codec.{Codec, byte_array, newtype}
use Rattle.rlp_records.specs.declared.address.Address.{Address}

-- the string of its 20 bytes
abbrev pub address : Codec Address
address = newtype (λ (a : Address). a.0) (byte_array 20)
