use Rattle.std.proofs.Common.{[], ◌++◌, append-nil, refl, rules, sym}
use Rattle.hex.specs.Hex.{encode_with}
use Rattle.rlp_format.proofs.HexDigits.{digits_append}
use Rattle.rlp_reading.proofs.{Lemmas.Texts.all-cut, Pieces.{put_append, put_of_eq, put_waits}}
use Rattle.rlp_reading.proofs.text.buffer.TextBuffer.put_hex.Goals as goal

pub loop-rest-init : goal.loop-rest-init
unfolding encode_with
loop-rest-init g c = record { done = []; all = refl; put = λ flush. put_waits _ _ _ _ _ flush (sym (append-nil _)) }

pub loop-rest-preserved : goal.loop-rest-preserved
loop-rest-preserved g c = record {
  done = c.loop-rest.invariant.done ++ c.split_at.result.0.now;
  all = all-cut c.loop-rest.invariant.done c.loop-rest.rest.now _ _ _ 64 c.split_at.ensures.front c.split_at.ensures.back c.loop-rest.invariant.all;
  put = λ flush.
      let before = c.loop-rest.invariant.put flush in
      put_of_eq _ _ _ _ _ _ _ (digits_append c.loop-rest.invariant.done c.split_at.result.0.now)
      (put_append _ _ _ _ _ _ _ _ _ before (c.put_few.ensures before.wrote.flush (search rules)));
}
