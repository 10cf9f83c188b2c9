-- How hashes are written and read.
use Rattle.rlp.specs.Codec.{Codec, byte_array, newtype}
use Rattle.rlp_records.specs.declared.hash.Hash.{Hash}

-- the string of its 32 bytes
abbrev pub hash : Codec Hash
hash = newtype (λ (h : Hash). h.0) (byte_array 32)
