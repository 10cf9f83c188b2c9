use Rattle.std.proofs.{Common.{◌-◌, ℕ, length, arith}, lemmas.List.drop-replicate}
use Rattle.rlp_keccak.proofs.Sponge.{padded}
use Rattle.rlp_keccak.proofs.keccak.last_block.Goals as goal

pub returns : goal.returns
returns c =
    let r = c.args.rest.now in
    let zeros = drop-replicate {X = ℕ} (length r) 136 0 in
    rw (c.copy_from_slice.ensures.after, zeros) (padded r (136 - length r) (omega arith) (omega arith))
