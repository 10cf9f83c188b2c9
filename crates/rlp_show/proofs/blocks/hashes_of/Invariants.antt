use Rattle.std.proofs.Common.{◌≡◌, ◌++◌, length, map}
use Rattle.rlp_show.specs.Blocks.{seen_hash}
use Rattle.rlp_show.proofs.blocks.hashes_of.Given as goal

-- the hashes so far, and then the hashes of the headers that are left, are all hashes
abbrev pub invariant-loop-rest : goal.invariant-loop-rest
invariant-loop-rest l = l.hashes.items ++ map seen_hash l.rest ≡ map seen_hash l.initial.rest

abbrev pub decreases-loop-rest : goal.decreases-loop-rest
decreases-loop-rest l = length l.rest
