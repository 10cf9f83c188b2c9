-- How blobs are written and read.
use Rattle.std.specs.{Prelude.{⊤, true}, Vec.vec_items}
use Rattle.std.proofs.Common.{refl}
use Rattle.rlp_reading.specs.Form.{fixed_of}
use Rattle.rlp_reading.proofs.StringLaws.{array_strings}
use Rattle.rlp.specs.Codec.{Codec, string_type}
use Rattle.rlp_pooled.specs.declared.blob.Blob.{Blob}

-- the string of the bytes of EIP-4844's "Vector[BLSFieldElement, FIELD_ELEMENTS_PER_BLOB]": 4096 elements of 32 bytes
abbrev pub blob : Codec Blob
blob = string_type (λ (b : Blob). ⊤) (λ b. vec_items b.bytes) (λ b. vec_items b.bytes) (λ d. d) (fixed_of 131072) true (record {
  back = λ b fit short. (array_strings 131072).back (vec_items b.bytes) b.is_whole short;
  only = λ d b held short is. (tt, ((array_strings 131072).only d (vec_items b.bytes) held short is).1);
  fits = λ b c same fit. tt;
  same = λ b. refl;
})
