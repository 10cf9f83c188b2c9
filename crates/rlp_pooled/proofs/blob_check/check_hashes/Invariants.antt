use Rattle.std.proofs.Common.{◌≡◌, drop}
use Rattle.rlp_pooled.specs.BlobCheck.{hash_check}
use Rattle.rlp_pooled.proofs.blob_check.check_hashes.Given as goal

abbrev pub invariant-places : goal.invariant-places
invariant-places l = hash_check l.i (drop l.i l.hashes) (drop l.i l.commitments) ≡ hash_check 0 l.hashes l.commitments
