-- How the numbers of a signature are written and read.
use Rattle.std.specs.{Prelude.{ℕ, ⊤, codes}, Int.Digits.number_from_digits}
use Rattle.rlp.specs.Codec.{Codec, newtype, number}
use Rattle.rlp_records.specs.Tested.{tested}
use Rattle.rlp_transactions.specs.{Secp256k1.is_scalar, StringKindLaws.narrow, declared.scalar.NonZeroScalar.NonZeroScalar}

-- the number
abbrev pub scalar_value : NonZeroScalar → ℕ
scalar_value x = number_from_digits 256 x.number.bytes

-- the number, if a signature has it
abbrev pub scalar : Codec NonZeroScalar
scalar =
    tested (codes "not a scalar of a signature") (newtype scalar_value (number 32)) is_scalar (λ x. ⊤)
    (λ x. (λ any. (narrow (scalar_value x) x.in_range, x.in_range), λ passes. tt))
