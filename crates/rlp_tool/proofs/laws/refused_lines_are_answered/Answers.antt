use Rattle.std.proofs.Common.{◌∙◌}
use Rattle.rlp_tool.proofs.AnswerLemmas.{answer-calls, answer-no_items, answer-nothing, answer-too_many}
use Rattle.rlp_tool.proofs.laws.refused_lines_are_answered.Goals as goal

pub returns : goal.returns
returns c = let test = c.raw_items_pass_the_test.ensures in record {
  too_many = λ calls place says r. answer-calls test.pass test.only c.args.line.now calls says ∙ answer-too_many test.pass test.only calls place r;
  nothing_to_finish = λ calls place says r. answer-calls test.pass test.only c.args.line.now calls says ∙ answer-nothing test.pass test.only calls place r;
  raw_not_items = λ calls place says r. answer-calls test.pass test.only c.args.line.now calls says ∙ answer-no_items test.pass test.only calls place r;
}
