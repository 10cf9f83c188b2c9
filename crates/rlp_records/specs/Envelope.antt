-- Values after a byte that says what the value is, as in EIP-2718 and EIP-7702.
use Rattle.std.specs.Prelude.{ℕ, ◌⊎◌, List, [], ◌∷◌, Err, codes}
use Rattle.rlp.specs.{Codec.{Cases, Codec, and_case, last_case}, Views.View.{View, strict_view_of}}
use Rattle.rlp_reading.specs.{Form.{Answer, Fault, custom, here}, Sums.read_last}
use Rattle.rlp_records.specs.Alone.{unknown_type}

-- What bytes that are the byte `kind` and then an encoding give: `read` reads the encoding strictly. Bytes that are empty or begin with another byte have a custom
-- fault with the text `other`.
abbrev pub read_after : {M : Type 0} → ℕ → List ℕ → (View → Answer M Fault) → List ℕ → Answer M Fault
read_after kind other read [] = here (Err (custom other))
read_after kind other read (first ∷ payload) = read_last other kind read first (strict_view_of payload)

-- the text of the fault of bytes that are empty or begin with another type
abbrev pub another_type : List ℕ
another_type = codes "another type"

-- ---- the types of Ethereum

-- Payloads of the types 1 (EIP-2930), 2 (EIP-1559), 3 (EIP-4844) and 4 (EIP-7702).
abbrev pub four_types : {A B C D : Type 0} → Codec A → Codec B → Codec C → Codec D → Cases (A ⊎ (B ⊎ (C ⊎ D)))
four_types a b c d = and_case 1 a (and_case 2 b (and_case 3 c (last_case unknown_type 4 d)))
