use Rattle.std.proofs.Common.{[], refl}
use Rattle.rlp.specs.Streams.Stream.{initial_state}
use Rattle.rlp_tool.specs.{RawItems.is_shallow}
use Rattle.rlp_tool.proofs.{AnswerLemmas.{answer-described, answer-ends, answer-finishes}, CallsLemmas.{are_joined, made_steps}}
use Rattle.rlp_tool.proofs.laws.finished_lines_are_answered.Goals as goal

pub returns : goal.returns
returns c =
    let law = c.stream_joins_what_is_described.ensures in
    let test = c.raw_items_pass_the_test.ensures in
    let line = c.args.line.now in
    record {
      described = λ calls items says d.
          answer-described test.pass test.only line calls items (law.finished [] calls items (law.restricted_items is_shallow [] calls items d)) says d;
      finished = λ calls bytes says taken f. (
        are_joined [] calls f.last bytes taken (law.restricted_steps is_shallow [] calls) (law.payloads [] calls taken.steps) f.admitted f.closed f.buffer,
        answer-finishes test.pass test.only line calls bytes says taken f,
      );
      only = λ calls says begins.
          let (last, made, closed) = answer-ends test.pass test.only line calls c.parts_of_sized_are_sized.ensures.join says begins in
          let (steps, described, admitted) = made_steps 1 (initial_state []) calls last made in
          let j = are_joined [] calls last last.stack.inner (record { steps = steps; described = described }) (law.restricted_steps is_shallow [] calls)
          (law.payloads [] calls steps) admitted closed refl in
          (j.items, j.shallow, answer-described test.pass test.only line calls j.items (law.finished [] calls j.items j.described) says j.shallow);
    }
