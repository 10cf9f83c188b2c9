use Rattle.std.proofs.Common.{◌≡◌, ◌*◌, length, take}
use Rattle.rlp_keccak.specs.Keccak.{bytes_of_lanes}
use Rattle.rlp_keccak.proofs.keccak.digest.Given as goal

abbrev pub invariant-lanes : goal.invariant-lanes
invariant-lanes l = (length l.out ≡ 32) × (take (8 * l.i) l.out ≡ bytes_of_lanes l.first l.i)
