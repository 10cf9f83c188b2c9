use Rattle.std.proofs.Common.{rules, ◌^◌, ◌<◌, ℕ, slice_index, arith, refl}
use Rattle.rlp_keccak.{specs.{Complements.{complement, masked, masked_by_pi}, Keccak.{chi, iota}}, proofs.{RoundConstants.{constant_at}, Complements.{complements, next, not_is}}}
use Rattle.rlp_keccak.proofs.keccak.permutation.chi_iota.Goals as goal

pub returns : goal.returns
unfolding chi iota masked masked_by_pi
returns c =
    let low : (k : ℕ) → slice_index c.args.b k < 2 ^ 64 = λ k. search rules in
    let low_too : (k : ℕ) → complement (slice_index c.args.b k) < 2 ^ 64 = λ k. omega (arith, low k, not_is (slice_index c.args.b k) (low k)) in
    let constant = constant_at c.args.i c.requires in
    rw constant (next (simp complements) (next (simp complements) (next (simp complements) (next (simp complements) (next (simp complements) (next (simp complements) (next (simp complements) (next (simp complements) (next (simp complements) (next (simp complements) (next (simp complements) (next (simp complements) (next (simp complements) (next (simp complements) (next (simp complements) (next (simp complements) (next (simp complements) (next (simp complements) (next (simp complements) (next (simp complements) (next (simp complements) (next (simp complements) (next (simp complements) (next (simp complements) (next (simp complements) refl)))))))))))))))))))))))))
