-- Hex-prefix encoding of paths, as in appendix C of the yellow paper.
use Rattle.std.specs.Prelude.{ℕ, ◌≡◌, ◌+◌, ◌*◌, ◌/◌, ◌%◌, ◌<◌, ◌==◌, ◌&&◌, ◌||◌, nat_le, if◌then◌else◌, All, Bool, true, false, List, [], ◌∷◌, length, codes, unwrap_or, Option, Some, None, Result, Ok, Err}
use mathlib.Core.Bool.{beq}
use Rattle.rlp.specs.{DecoderError.DecoderError, Form.{Fault, custom, fault_of}}

-- ---- the encoding

-- the numbers are nibbles: below 16
abbrev pub AreNibbles : List ℕ → Type 0
AreNibbles x = All (λ n. n < 16) x

-- nibbles as bytes, two in each
abbrev pub bytes_of : List ℕ → List ℕ
bytes_of [] = []
bytes_of (high ∷ []) = []
bytes_of (high ∷ low ∷ more) = (16 * high + low) ∷ bytes_of more

-- the flag f(t): 2 for a path that ends in a leaf, and else 0
abbrev pub flag_of : Bool → ℕ
flag_of true = 2
flag_of false = 0

-- the encoding of an odd number of nibbles: the first byte has the flag plus 1 and the first nibble
abbrev pub odd_prefix : Bool → List ℕ → List ℕ
odd_prefix leaf [] = []
odd_prefix leaf (first ∷ more) = (16 * (flag_of leaf + 1) + first) ∷ bytes_of more

-- HP(x, t): the nibbles x, two in each byte, after the flag of t. An even number of nibbles has the flag and 0 in the first byte.
abbrev pub hex_prefix : Bool → List ℕ → List ℕ
hex_prefix leaf x = if length x % 2 == 0 then (16 * flag_of leaf) ∷ bytes_of x else odd_prefix leaf x

-- the bytes are the encoding of nibbles, for a path that ends in a leaf or for a path that doesn't
pub record IsHexPrefix (leaf : Bool) (d : List ℕ) : Type 0 where
  pub nibbles : List ℕ
  pub are : AreNibbles nibbles
  pub is : d ≡ hex_prefix leaf nibbles

-- whether the flag is the flag of a path that ends in a leaf
abbrev pub is_leaf_flag : ℕ → Bool
is_leaf_flag flag = flag == 2

-- ---- reading

-- bytes as nibbles, two of each
abbrev pub nibbles_of : List ℕ → List ℕ
nibbles_of [] = []
nibbles_of (byte ∷ more) = byte / 16 ∷ byte % 16 ∷ nibbles_of more

-- the nibbles of an encoded path: the second digit of the first byte is one of them if the flag is odd
abbrev pub path_nibbles : List ℕ → List ℕ
path_nibbles [] = []
path_nibbles (first ∷ more) = if first / 16 % 2 == 1 then first % 16 ∷ nibbles_of more else nibbles_of more

-- whether a path with this first byte ends in a leaf, if the byte begins an encoded path
abbrev pub first_ends_in_leaf : ℕ → Option Bool
first_ends_in_leaf first =
    if (first == 0x00) || (nat_le 0x10 first && nat_le first 0x1f) then Some false
    else if (first == 0x20) || (nat_le 0x30 first && nat_le first 0x3f) then Some true
    else None

-- whether a path ends in a leaf, if it is hex-prefix encoded
abbrev pub ends_in_leaf : List ℕ → Option Bool
ends_in_leaf [] = None
ends_in_leaf (first ∷ more) = first_ends_in_leaf first

-- whether bytes are the path of a leaf
abbrev pub is_leaf_path : List ℕ → Bool
is_leaf_path d = unwrap_or (ends_in_leaf d) false

-- whether bytes are the path of an extension that has no nibbles
abbrev pub is_empty_extension : List ℕ → Bool
is_empty_extension [] = false
is_empty_extension (first ∷ []) = first == 0x00
is_empty_extension (first ∷ next ∷ more) = false

-- bytes are the path of a leaf, or of an extension: hex-prefix encoded, of this kind, and for an extension with at least one nibble
abbrev pub IsPath : Bool → List ℕ → Type 0
IsPath leaf d = (ends_in_leaf d ≡ Some leaf) × (is_empty_extension d ≡ false)

-- what bytes give as the path of a leaf, or of an extension, by the kind of the path that they are, or `None` if they are no path
abbrev pub path_of_kind : Bool → List ℕ → Option Bool → Result (List ℕ) Fault
path_of_kind leaf d None = Err (custom (codes "path is not hex-prefix encoded"))
path_of_kind leaf d (Some other) =
    if beq other leaf then (if is_empty_extension d then Err (custom (codes "path of an extension is empty")) else Ok d)
    else Err (custom (codes "path is that of another node"))

-- What bytes give as the path of a leaf, or of an extension. Reading fails if the bytes aren't hex-prefix encoded, or are a path of the other kind, or are the path
-- of an extension with no nibbles.
abbrev pub path_of : Bool → List ℕ → Result (List ℕ) Fault
path_of leaf d = path_of_kind leaf d (ends_in_leaf d)

-- Why numbers aren't the nibbles of the path of a leaf, or of an extension: a number isn't a nibble, or an extension has no nibbles.
pub data IsNibbleFault (leaf : Bool) (x : List ℕ) (e : DecoderError) : Type 0 where
  above_nibbles : ¬ AreNibbles x → fault_of e ≡ custom (codes "nibble is above 15") → IsNibbleFault leaf x e
  no_nibbles : leaf ≡ false → x ≡ [] → fault_of e ≡ custom (codes "path of an extension is empty") → IsNibbleFault leaf x e
