use Rattle.std.proofs.{Common.{◌∙◌, ◌+◌, ap, drop, refl, string_bytes}, lemmas.List.drop-drop, lemmas.Result.on_ok_weaker}
use Rattle.rlp_lines.proofs.DigitLemmas.{printed-all, printed-more, printed-none}
use Rattle.rlp_lines.proofs.digits.push_bytes.Goals as goal

pub loop-rest-init : goal.loop-rest-init
loop-rest-init c = record { done = 0; printed = printed-none (string_bytes c.args.out.now) c.args.bytes.now; left = refl }

pub loop-rest-preserved : goal.loop-rest-preserved
loop-rest-preserved c =
    let so_far = c.loop-rest.invariant in
    record {
      done = so_far.done + 64;
      printed = printed-more (string_bytes c.args.out.now) (string_bytes c.loop-rest.out) (string_bytes c.push_few.new.out) c.args.bytes.now
          c.loop-rest.rest.now c.split_at.result.0.now so_far.done 64 so_far.printed so_far.left c.split_at.ensures.front c.in_ok-push_few.ensures.ok;
      left = c.split_at.ensures.back ∙ ap (drop 64) so_far.left ∙ drop-drop 64 so_far.done c.args.bytes.now;
    }

pub returns-clause-ok : goal.returns-clause-ok
returns-clause-ok c =
    let so_far = c.loop-rest.invariant in
    on_ok_weaker c.push_few-2.result (printed-all (string_bytes c.args.out.now) (string_bytes c.loop-rest.out)
    (string_bytes c.push_few-2.new.out) c.args.bytes.now c.loop-rest.rest.now so_far.done so_far.printed so_far.left) c.push_few-2.ensures.ok
