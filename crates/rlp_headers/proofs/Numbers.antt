-- Numbers of as many digits are in order as their digits are.
use Rattle.std.proofs.Common.{◌≡◌, ◌<◌, ◌≤◌, ◌+◌, ◌*◌, ℕ, Bool, true, false, ◌^◌, List, [], ◌∷◌, length, ap, sym, refl, ◌∙◌, arith, ◌≢◌, ltb, le-ltb, ltb-true, ltb-false, eqb-true, ◌==◌}
use Rattle.std.proofs.{lemmas.Bool.Decides.nat_tests, lemmas.List.Elements.recursion_from_All}
use Rattle.std.specs.{Cmp.Lexicographic.slice_cmp, Int.Digits.{AllBelowBase, number_from_digits, number_from_digits_after}}
use Rattle.std.specs.{Ordering.{is_lt, nat_cmp, ordering_then}, Prelude.cond, declared.cmp.Ordering.TheVariants.{Less, Equal, Greater}}
use Rattle.rlp.specs.Format.Encoding.{AreBytes}

-- what is below stays below, whatever digits follow
below_after : (m n : ℕ) (xs ys : List ℕ) → m < n → AllBelowBase 256 xs → AllBelowBase 256 ys → length xs ≡ length ys
    → number_from_digits_after 256 m xs < number_from_digits_after 256 n ys
below_after m n [] [] below fs gs long = below
below_after m n [] (y ∷ ys) below fs gs long = absurd (omega (arith, long))
below_after m n (x ∷ xs) [] below fs gs long = absurd (omega (arith, long))
below_after m n (x ∷ xs) (y ∷ ys) below fs gs long =
    below_after (m * 256 + x) (n * 256 + y) xs ys (omega (arith, fs.0)) fs.1 gs.1 (omega (arith, long))

order_after : (m : ℕ) (xs ys : List ℕ) → AllBelowBase 256 xs → AllBelowBase 256 ys → length xs ≡ length ys
    → is_lt (slice_cmp nat_cmp xs ys) ≡ ltb (number_from_digits_after 256 m xs) (number_from_digits_after 256 m ys)
order_after m [] [] fs gs long = sym (le-ltb m m (omega arith))
order_after m [] (y ∷ ys) fs gs long = absurd (omega (arith, long))
order_after m (x ∷ xs) [] fs gs long = absurd (omega (arith, long))
order_after m (x ∷ xs) (y ∷ ys) fs gs long =
    let one : x < y → number_from_digits_after 256 (m * 256 + x) xs < number_from_digits_after 256 (m * 256 + y) ys =
    λ l. below_after (m * 256 + x) (m * 256 + y) xs ys (omega (arith, l)) fs.1 gs.1 (omega (arith, long)) in
    let other : y < x → number_from_digits_after 256 (m * 256 + y) ys < number_from_digits_after 256 (m * 256 + x) xs =
    λ l. below_after (m * 256 + y) (m * 256 + x) ys xs (omega (arith, l)) gs.1 fs.1 (omega (arith, long)) in
    grind (arith, nat_tests, order_after (m * 256 + x) xs ys fs.1 gs.1 (omega (arith, long)))

-- bytes are in order as the numbers are that they write
pub bytes_order : (xs ys : List ℕ) → AreBytes xs → AreBytes ys → length xs ≡ length ys
    → is_lt (slice_cmp nat_cmp xs ys) ≡ ltb (number_from_digits 256 xs) (number_from_digits 256 ys)
bytes_order xs ys fs gs long =
    order_after 0 xs ys (recursion_from_All (λ byte. byte < 2 ^ 8) xs fs) (recursion_from_All (λ byte. byte < 2 ^ 8) ys gs) long
