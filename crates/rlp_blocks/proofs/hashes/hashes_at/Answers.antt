use Rattle.std.proofs.Common.{arith, sym}
use Rattle.std.specs.Vec.{vec_items}
use Rattle.rlp.specs.Format.Encoding.{list_of}
use Rattle.rlp_blocks.proofs.PlacedHashes.{none_missing, placed_hashes}
use Rattle.rlp_blocks.proofs.hashes.hashes_at.Goals as goal

pub returns-in_err-at : goal.returns-in_err-at
returns-in_err-at c = λ before after xs at is.
    absurd (none_missing c.new_strict-view.result c.args.bytes.now c.args.place c.new_strict-view.ensures (omega arith) before after (list_of xs) at is
    c.in_err-at.field-0.0 (sym c.in_err-at.ensures))

pub returns : goal.returns
returns c = λ before after xs at is.
    placed_hashes c.new_strict-view.result c.args.bytes.now c.args.place c.new_strict-view.ensures (omega arith) before after xs at is vec_items
    c.in_ok-at.field-0 (sym c.in_ok-at.ensures) c.item_hashes.result c.item_hashes.ensures.hashes c.item_hashes.ensures.fault
