use Rattle.std.proofs.Common.{arith, map, sym}
use Rattle.rlp.specs.Format.Encoding.{list_of}
use Rattle.rlp_trie.specs.OrderedPairs.{slice_bytes}
use Rattle.rlp_blocks.proofs.PlacedHashes.{none_missing, placed_values}
use Rattle.rlp_blocks.proofs.hashes.values_at.Goals as goal

pub returns-in_err-at : goal.returns-in_err-at
returns-in_err-at c = λ before after xs at is.
    absurd (none_missing c.new_strict-view.result c.args.bytes.now c.args.place c.new_strict-view.ensures (omega arith) before after (list_of xs) at is
    c.in_err-at.field-0.0 (sym c.in_err-at.ensures))

pub returns : goal.returns
returns c = λ before after xs at is.
    placed_values c.new_strict-view.result c.args.bytes.now c.args.place c.new_strict-view.ensures (omega arith) before after xs at is
    (λ vs. map slice_bytes vs.items) c.in_ok-at.field-0 (sym c.in_ok-at.ensures) c.item_values.result c.item_values.ensures.values
    c.item_values.ensures.fault
