use Rattle.std.proofs.{Common.{◌≡◌, ℕ, ◌*◌, ◌+◌, ◌<◌, ◌^◌, List, [], ◌∷◌, length, refl, sym, ap, ◌∙◌, arith, Ordering}, lemmas.Bool.Decides.nat_tests}
use Rattle.std.proofs.lemmas.List.Elements.{recursion_from_All}
use Rattle.std.specs.{Cmp.Lexicographic.slice_cmp, Ordering.{nat_cmp, ordering_then}, declared.cmp.Ordering.TheVariants.{Less, Equal, Greater}, Int.Digits.number_from_digits_after}
use Rattle.rlp_format.proofs.Lemmas.Digits.{bytes_held}
use Rattle.rlp_reading.proofs.Lemmas.Reading.{Bytes}
use Rattle.rlp.proofs.laws.uints.digits_compare_as_numbers.Goals as goal

-- a third answer after two
then_then : (o p q : Ordering) → ordering_then (ordering_then o p) q ≡ ordering_then o (ordering_then p q)
then_then Less p q = refl
then_then Equal p q = refl
then_then Greater p q = refl

then_equal : (o : Ordering) → o ≡ ordering_then o Equal
then_equal Less = refl
then_equal Equal = refl
then_equal Greater = refl

-- one more digit after each of two numbers
one_more : (m n x y : ℕ) → x < 256 → y < 256 → nat_cmp (m * 256 + x) (n * 256 + y) ≡ ordering_then (nat_cmp m n) (nat_cmp x y)
one_more m n x y low small = grind (arith, nat_tests)

-- as many digits after each of two numbers
digits_after : (xs ys : List ℕ) (m n : ℕ) → length xs ≡ length ys → Bytes xs → Bytes ys
    → ordering_then (nat_cmp m n) (slice_cmp nat_cmp xs ys) ≡ nat_cmp (number_from_digits_after 256 m xs) (number_from_digits_after 256 n ys)
digits_after [] [] m n many bs cs = sym (then_equal (nat_cmp m n))
digits_after [] (y ∷ ys) m n many bs cs = absurd (omega arith)
digits_after (x ∷ xs) [] m n many bs cs = absurd (omega arith)
digits_after (x ∷ xs) (y ∷ ys) m n many bs cs =
    sym (then_then (nat_cmp m n) (nat_cmp x y) (slice_cmp nat_cmp xs ys))
    ∙ ap (λ o. ordering_then o (slice_cmp nat_cmp xs ys)) (sym (one_more m n x y bs.0 cs.0))
    ∙ digits_after xs ys (m * 256 + x) (n * 256 + y) (omega arith) bs.1 cs.1

pub returns : goal.returns
returns c = digits_after _ _ 0 0 c.requires (recursion_from_All (λ byte. byte < 2 ^ 8) c.args.one.now (bytes_held _ c.type_inv.one))
    (recursion_from_All (λ byte. byte < 2 ^ 8) c.args.other.now (bytes_held _ c.type_inv.other))
