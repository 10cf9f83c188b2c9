-- Which numbers a signature has.
use Rattle.std.specs.{Prelude.{ℕ, ◌≤◌, ◌/◌, ◌&&◌, nat_lt, Bool, IsTrue}, Int.Digits.number_from_digits}
use Rattle.rlp.specs.Uint.{Uint}

-- SEC 2, section 2.4.1: the order n of the group of secp256k1
abbrev pub group_order : ℕ
group_order = 0xfffffffffffffffffffffffffffffffebaaedce6af48a03bbfd25e8cd0364141

-- SEC 1, section 4.1.4: r and s are in the interval [1, n - 1]
abbrev pub is_scalar : ℕ → Bool
is_scalar n = nat_lt 0 n && nat_lt n group_order

abbrev pub IsScalar : Uint 32 → Type 0
IsScalar n = IsTrue (is_scalar (number_from_digits 256 n.bytes))

-- EIP-2: "All transaction signatures whose s-value is greater than secp256k1n/2 are now considered invalid."
abbrev pub IsLow : Uint 32 → Type 0
IsLow n = number_from_digits 256 n.bytes ≤ group_order / 2
