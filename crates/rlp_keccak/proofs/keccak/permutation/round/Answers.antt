use Rattle.std.proofs.Common.{rules, ◌^◌, ◌<◌, ℕ, slice_index}
use Rattle.rlp_keccak.{specs.Keccak.{round}, proofs.Complements.{theta_masked, rho_pi_masked}}
use Rattle.rlp_keccak.proofs.keccak.permutation.round.Goals as goal

pub returns : goal.returns
unfolding round
returns c =
    let la : (k : ℕ) → slice_index c.args.a k < 2 ^ 64 = λ k. search rules in
    let lt : (k : ℕ) → slice_index c.theta.result k < 2 ^ 64 = λ k. search rules in
    rw (c.rho_pi.ensures, ← rho_pi_masked c.theta.result lt, c.theta.ensures, ← theta_masked c.args.a la) at c.chi_iota.ensures
