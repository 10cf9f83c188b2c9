use Rattle.std.proofs.{Common.{sym, ap, refl, ◌∙◌}, lemmas.Map.Lookups.exact_bytes}
use Rattle.std.specs.{Cmp.nat_cmp_is, Ordering.nat_cmp, declared.cmp.Ordering.TheVariants.Equal, Int.Digits.number_from_digits}
use Rattle.rlp.proofs.laws.uints.equal_numbers_are_equal_digits.Goals as goal

pub returns : goal.returns
returns c same =
    let n = number_from_digits 256 c.args.one.now in
    exact_bytes c.args.one.now c.args.other.now (c.digits_compare_as_numbers.ensures ∙ ap (nat_cmp n) (sym same) ∙ sym (nat_cmp_is n n Equal refl))
