use Rattle.std.proofs.Common.{◌≡◌, ◌*◌}
use Rattle.rlp_keccak.specs.{Complements.{masked}, Keccak.{rounds}}
use Rattle.rlp_keccak.proofs.keccak.permutation.keccak_f.Given as goal

abbrev pub invariant-rounds : goal.invariant-rounds
invariant-rounds l = masked l.state ≡ rounds (masked l.initial.state) (2 * l.i)
