use Rattle.std.proofs.Common.{arith}
use Rattle.rlp_tool.proofs.RawLemmas.{are_raw_items-passed}
use Rattle.rlp_tool.proofs.laws.raw_items_are_tested.Goals as goal

pub returns : goal.returns
returns c = λ count. (
  c.raw_items_pass_the_test.ensures.only c.args.bytes.now count,
  are_raw_items-passed c.raw_items_pass_the_test.ensures.pass c.parts_of_sized_are_sized.ensures.join c.args.bytes.now count (omega arith),
)
