-- What string is the version of the list that holds a transaction and its blobs.
use Rattle.std.specs.{Prelude.{ℕ, ⊤, if◌then◌else◌, List, [], ◌∷◌, Result, Ok, Err, codes}, Str.bytes_eq}
use Rattle.rlp_reading.specs.Form.{Fault, custom}
use Rattle.rlp_pooled.specs.declared.blob_wrapper.WrapperVersion.{WrapperVersion}

-- EIP-7594: the version of the wrapper is 1
abbrev pub version_bytes : WrapperVersion → List ℕ
version_bytes version = 1 ∷ []

-- whether a string is the version
abbrev pub version_of : List ℕ → Result ⊤ Fault
version_of d = if bytes_eq d (1 ∷ []) then Ok tt else Err (custom (codes "unknown wrapper version"))
