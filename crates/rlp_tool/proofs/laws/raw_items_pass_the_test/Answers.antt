use Rattle.rlp_tool.proofs.RawLemmas.{are_raw_items-join, are_raw_items-told}
use Rattle.rlp_tool.proofs.laws.raw_items_pass_the_test.Goals as goal

pub returns : goal.returns
returns c =
    let raw = c.raw_items_are_shallow.ensures in
    record { pass = are_raw_items-join raw.encoded c.join_splits_into_encodings.ensures; only = are_raw_items-told raw.depth }
