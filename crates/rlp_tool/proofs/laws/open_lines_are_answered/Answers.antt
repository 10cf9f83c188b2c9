use Rattle.rlp_tool.proofs.AnswerLemmas.{answer-opens}
use Rattle.rlp_tool.proofs.laws.open_lines_are_answered.Goals as goal

pub returns : goal.returns
returns c = let test = c.raw_items_pass_the_test.ensures in answer-opens test.pass test.only c.args.line.now
