use Rattle.std.proofs.Common.{◌≡◌}
use Rattle.rlp_keccak.specs.{Complements.{masked}, Keccak.{absorbed}}
use Rattle.rlp_keccak.proofs.keccak.keccak256.Given as goal

abbrev pub invariant-whole : goal.invariant-whole
invariant-whole l = masked l.state ≡ absorbed l.bytes l.i
