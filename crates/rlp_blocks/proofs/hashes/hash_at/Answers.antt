use Rattle.std.proofs.Common.{arith, sym}
use Rattle.rlp_blocks.proofs.PlacedHashes.{none_missing, placed_hash}
use Rattle.rlp_blocks.proofs.hashes.hash_at.Goals as goal

pub returns-in_err-at : goal.returns-in_err-at
returns-in_err-at c = λ before after x at is.
    absurd (none_missing c.new_strict-view.result c.args.bytes.now c.args.place c.new_strict-view.ensures (omega arith) before after x at is
    c.in_err-at.field-0.0 (sym c.in_err-at.ensures))

pub returns : goal.returns
returns c = λ before after x at is.
    placed_hash c.new_strict-view.result c.args.bytes.now c.args.place c.new_strict-view.ensures (omega arith) before after x at is
    c.in_ok-at.field-0 (sym c.in_ok-at.ensures) c.item_hash.result c.item_hash.ensures.hash c.item_hash.ensures.fault
