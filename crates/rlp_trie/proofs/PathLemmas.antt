-- Hex-prefix encoding goes both ways.
use Rattle.std.proofs.Common.{◌≡◌, ℕ, ◌+◌, ◌*◌, ◌/◌, ◌%◌, ◌<◌, ◌≤◌, ◌≢◌, ◌↔◌, ◌⊎◌, Bool, true, false, List, [], ◌∷◌, length, refl, sym, ap, ◌∙◌, arith, Option, Some, Result, Ok, Err, IfOk, take, drop, not, get_or, ◌++◌, ◌-◌, append_assoc}
use Rattle.std.proofs.{lemmas.Bool.Decides.nat_tests, lemmas.Grind.common_steps, lemmas.List.Elements.{All-cons, All-drop, All-head, All-nil, All-tail, All-take}}
use mathlib.Core.Bool.{beq}
use Rattle.std.specs.{Global.Vec, declared.alloc.AllocError.AllocError}
use Rattle.rlp.specs.Format.Encoding.{AreBytes}
use Rattle.rlp_format.proofs.Lemmas.Digits.{bytes_held}
use Rattle.rlp_trie.specs.HexPrefix.{AreNibbles, IsHexPrefix, above_nibbles, bytes_of, ends_in_leaf, is_empty_extension, no_nibbles, first_ends_in_leaf, flag_of, hex_prefix, nibbles_of, odd_prefix, path_nibbles}

abbrev IsNibble : ℕ → Type 0
IsNibble n = n < 16

abbrev IsByte : ℕ → Type 0
IsByte n = n < 256

-- ---- two nibbles in each byte

-- the nibbles of bytes make the same bytes
bytes_back : (d : List ℕ) → bytes_of (nibbles_of d) ≡ d
bytes_back [] = refl
bytes_back (b ∷ d) = grind (arith, bytes_back d)

-- the bytes of an even number of nibbles have the same nibbles
nibbles_back : (x : List ℕ) → AreNibbles x → length x % 2 ≡ 0 → nibbles_of (bytes_of x) ≡ x
nibbles_back [] are even = refl
nibbles_back (a ∷ []) are even = absurd (omega (arith, even))
nibbles_back (a ∷ b ∷ x) are even =
    let tail = All-tail IsNibble a (b ∷ x) are in
    grind (arith, nibbles_back x (All-tail IsNibble b x tail), All-head IsNibble b x tail)

-- the digits of bytes are nibbles
pub nibbles_are : (d : List ℕ) → AreBytes d → AreNibbles (nibbles_of d)
nibbles_are [] are = All-nil IsNibble
nibbles_are (b ∷ d) are =
    let byte : b < 256 = All-head IsByte b d are in
    All-cons IsNibble (b / 16) (b % 16 ∷ nibbles_of d) (omega (arith, byte))
    (All-cons IsNibble (b % 16) (nibbles_of d) (omega arith) (nibbles_are d (All-tail IsByte b d are)))

-- each byte has two nibbles
nibbles_even : (d : List ℕ) → length (nibbles_of d) % 2 ≡ 0
nibbles_even [] = refl
nibbles_even (b ∷ d) = let rest = nibbles_even d in omega (arith, rest)

-- ---- the first byte

-- an even flag and no nibble, or an odd one with the first nibble
flag_told : (first : ℕ) (leaf : Bool) → first_ends_in_leaf first ≡ Some leaf
    → (first ≡ 16 * flag_of leaf) ⊎ (first ≡ 16 * (flag_of leaf + 1) + first % 16)
flag_told first false is = grind (arith, nat_tests)
flag_told first true is = grind (arith, nat_tests)

flag_even : (leaf : Bool) → flag_of leaf % 2 ≡ 0
flag_even false = refl
flag_even true = refl

odd_first : (leaf : Bool) (a : ℕ) → a < 16 → first_ends_in_leaf (16 * (flag_of leaf + 1) + a) ≡ Some leaf
odd_first false a small = grind (arith, nat_tests)
odd_first true a small = grind (arith, nat_tests)

-- ---- both ways

-- an encoded path is the encoding of its nibbles
pub path_back : (d : List ℕ) (leaf : Bool) → AreBytes d → ends_in_leaf d ≡ Some leaf → AreNibbles (path_nibbles d) × (d ≡ hex_prefix leaf (path_nibbles d))
path_back [] leaf bytes is = absurd (let no : ⊥ = cc in no)
path_back (first ∷ more) leaf bytes is =
    let are = nibbles_are more (All-tail IsByte first more bytes) in
    let all = All-cons IsNibble (first % 16) (nibbles_of more) (omega arith) are in
    grind (arith, nat_tests, flag_told first leaf is, bytes_back more, nibbles_even more, flag_even leaf)

not_empty_of : (leaf : Bool) (x : List ℕ) → AreNibbles x → (leaf ≡ false → x ≢ []) → is_empty_extension (hex_prefix leaf x) ≡ false
not_empty_of false [] are some = absurd (some refl refl)
not_empty_of true [] are some = refl
not_empty_of leaf (a ∷ []) are some = grind (arith, nat_tests)
not_empty_of leaf (a ∷ b ∷ x) are some = grind (arith, nat_tests)

-- the encoding of nibbles ends as it says, and has the same nibbles
pub path_again : (leaf : Bool) (x : List ℕ) → AreNibbles x → (ends_in_leaf (hex_prefix leaf x) ≡ Some leaf) × (path_nibbles (hex_prefix leaf x) ≡ x)
path_again false [] are = (refl, refl)
path_again true [] are = (refl, refl)
path_again leaf (a ∷ x) are =
    let rest = nibbles_back x (All-tail IsNibble a x are) in let all = nibbles_back (a ∷ x) are in
    grind (arith, nat_tests, odd_first leaf a, All-head IsNibble a x are)

-- the flag tells what bytes are the encoding of
pub told_by_path : (d : List ℕ) (r : Option Bool) → AreBytes d → r ≡ ends_in_leaf d → (leaf : Bool) → (r ≡ Some leaf) ↔ IsHexPrefix leaf d
told_by_path d r bytes is leaf = (
  λ told. let (are, same) = path_back d leaf bytes (sym is ∙ told) in record { nibbles = path_nibbles d; are = are; is = same },
  λ path. is ∙ ap ends_in_leaf path.is ∙ (path_again leaf path.nibbles path.are).0,
)

-- bytes that are the encoding of nibbles have them again
pub nibbles_again : (leaf : Bool) (d x : List ℕ) → AreNibbles x → d ≡ hex_prefix leaf x → path_nibbles d ≡ x
nibbles_again leaf d x are is = ap path_nibbles is ∙ (path_again leaf x are).1

pub ends_again : (leaf : Bool) (d x : List ℕ) → AreNibbles x → d ≡ hex_prefix leaf x → ends_in_leaf d ≡ Some leaf
ends_again leaf d x are is = ap ends_in_leaf is ∙ (path_again leaf x are).0

-- the encoding of nibbles is that of an empty path of an extension only if there are none
pub not_empty_again : (leaf : Bool) (d x : List ℕ) → AreNibbles x → d ≡ hex_prefix leaf x → (leaf ≡ false → x ≢ []) → is_empty_extension d ≡ false
not_empty_again leaf d x are is some = ap is_empty_extension is ∙ not_empty_of leaf x are some

-- a path of an extension has nibbles, unless it is the empty one
pub some_nibbles : (d : List ℕ) → ends_in_leaf d ≡ Some false → is_empty_extension d ≡ false → path_nibbles d ≢ []
some_nibbles [] is some = absurd (let no : ⊥ = cc in no)
some_nibbles (first ∷ []) is some = λ none. grind (arith, nat_tests)
some_nibbles (first ∷ next ∷ more) is some = λ none. grind (arith, nat_tests)

-- the nibbles that are read from a path
pub path_read : (leaf : Bool) (d : List ℕ) (r : Result (Vec ℕ) AllocError) → AreBytes d → ends_in_leaf d ≡ Some leaf → IfOk r (λ x. x.items ≡ path_nibbles d)
    → IfOk r (λ x. AreNibbles x.items × (d ≡ hex_prefix leaf x.items))
path_read leaf d (Ok x) bytes is read = grind (arith, path_back d leaf bytes is)
path_read leaf d (Err e) bytes is read = tt

-- truth values whose test says that they differ
pub differ : (a b : Bool) → not (beq a b) ≡ true → ¬ (a ≡ b)
differ a b other same = grind (arith, nat_tests)

-- what follows two nibbles are nibbles
pub pairs_are : (n : ℕ) (x : List ℕ) → AreNibbles x → AreNibbles (take n (drop 2 x))
pairs_are n x are = All-take IsNibble n (drop 2 x) (All-drop IsNibble 2 x are)

-- two nibbles more are one byte more
pub pair_more : (n : ℕ) (x bs out whole : List ℕ) → 2 ≤ length x → n ≡ length x - 2 → out ≡ bs ++ (16 * get_or x 0 0 + get_or x 1 0) ∷ []
    → bs ++ bytes_of x ≡ whole → out ++ bytes_of (take n (drop 2 x)) ≡ whole
pair_more n [] bs out whole many is pushed kept = absurd (omega (arith, many))
pair_more n (high ∷ []) bs out whole many is pushed kept = absurd (omega (arith, many))
pair_more n (high ∷ low ∷ more) bs out whole many is pushed kept =
    grind (arith, common_steps, append_assoc bs ((16 * high + low) ∷ []) (bytes_of (take n more)))

pub ruleset made_of_nibbles = (above_nibbles, no_nibbles, nibbles_again, ends_again, not_empty_again)

pub ruleset told_by_flag = (told_by_path, bytes_held)
