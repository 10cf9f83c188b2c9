use Rattle.std.proofs.Common.{◌-◌, arith}
use Rattle.rlp_format.proofs.Lemmas.Digits.{bytes_held}
use Rattle.rlp_reading.proofs.Lemmas.Skipping.{after-short}
use Rattle.rlp_reading.proofs.skipping.skip_short.Goals as goal

pub loop-left-preserved : goal.loop-left-preserved
loop-left-preserved c = record {
  few = omega arith;
  after = after-short c.args.bytes.now c.loop-left.rest.now c.split_at.result.1.now (c.args.count - c.loop-left.left) _ c.short_len.result
      c.loop-left.invariant.after (bytes_held c.args.bytes.now c.type_inv.bytes) (omega arith) (omega arith) (omega arith) (omega arith) c.split_at.ensures.back (omega arith);
}
