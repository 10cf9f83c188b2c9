-- Each arm computes the number from the digits one by one.
use Rattle.std.proofs.{Common.{◌≡◌, ℕ, zero, suc, ◌+◌, ◌≤◌, ◌<◌, List, [], ◌∷◌, length, get_or, drop, sym, ap, ◌∙◌, arith, drop-cons}, lemmas.List.{drop_all}}
use Rattle.std.specs.Int.Digits.{number_from_digits}
use Rattle.rlp_reading.proofs.numbers.digits_at_once.Goals as goal

-- n digits from the k-th on, one by one
abbrev from : (k n : ℕ) → List ℕ → List ℕ
from k zero digits = []
from k (suc n) digits = get_or digits k 0 ∷ from (suc k) n digits

from-drop : (k n : ℕ) (digits : List ℕ) → k + n ≡ length digits → from k n digits ≡ drop k digits
from-drop k zero digits all = sym (drop_all k digits (omega arith))
from-drop k (suc n) digits all = ap (λ s. get_or digits k 0 ∷ s) (from-drop (suc k) n digits (omega arith)) ∙ sym (drop-cons digits k 0 (omega arith))

by_digits : (n : ℕ) (digits : List ℕ) → n ≤ length digits → length digits < suc n → number_from_digits 256 (from 0 n digits) ≡ number_from_digits 256 digits
by_digits n digits some few = ap (number_from_digits 256) (from-drop 0 n digits (omega arith))

pub returns-in-len1 : goal.returns-in-len1
returns-in-len1 c = omega (arith, by_digits 1 c.args.digits.now c.in-len1.len_at_least c.in-len1.len_below)

pub returns-in-len2 : goal.returns-in-len2
returns-in-len2 c = omega (arith, by_digits 2 c.args.digits.now c.in-len2.len_at_least c.in-len2.len_below)

pub returns-in-len3 : goal.returns-in-len3
returns-in-len3 c = omega (arith, by_digits 3 c.args.digits.now c.in-len3.len_at_least c.in-len3.len_below)

pub returns-in-len4 : goal.returns-in-len4
returns-in-len4 c = omega (arith, by_digits 4 c.args.digits.now c.in-len4.len_at_least c.in-len4.len_below)

pub returns-in-len5 : goal.returns-in-len5
returns-in-len5 c = omega (arith, by_digits 5 c.args.digits.now c.in-len5.len_at_least c.in-len5.len_below)

pub returns-in-len6 : goal.returns-in-len6
returns-in-len6 c = omega (arith, by_digits 6 c.args.digits.now c.in-len6.len_at_least c.in-len6.len_below)

pub returns-in-len7 : goal.returns-in-len7
returns-in-len7 c = omega (arith, by_digits 7 c.args.digits.now c.in-len7.len_at_least c.in-len7.len_below)

pub returns-in-len8 : goal.returns-in-len8
returns-in-len8 c = omega (arith, by_digits 8 c.args.digits.now c.in-len8.len_at_least c.in-len8.len_below)
