use Rattle.std.proofs.Common.{arith}
use Rattle.rlp.proofs.Streams.Descriptions.{described_buffer, described_buffer_only, same_buffer, same_items}
use Rattle.rlp.proofs.laws.described.finished_buffers_tell_items.Goals as goal

pub returns : goal.returns
returns c = record {
  joined = described_buffer;
  only = described_buffer_only;
  equal = λ front calls more xs ys d f e g. (
    same_buffer front calls more xs ys c.args.one.now c.args.other.now (omega arith) (omega arith) d f e g,
    same_items front calls more xs ys c.args.one.now c.args.other.now d f e g,
  );
}
