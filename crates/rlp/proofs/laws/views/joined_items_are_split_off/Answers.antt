use Rattle.std.proofs.Common.{◌≡◌, ◌<◌, ◌^◌, length, arith}
use Rattle.rlp_reading.proofs.Lemmas.Fronts.{split_end, split_off}
use Rattle.rlp.proofs.laws.views.joined_items_are_split_off.Goals as goal

pub returns-clause-next : goal.returns-clause-next
returns-clause-next c = λ x xs joined.
    let fits : length c.args.bytes.now < 2 ^ 64 = omega arith in
    split_off (λ r. r.0.bytes) (λ r. r.1.now) (λ r. r.0.is_strict ≡ c.new.result.is_strict) c.new.result c.args.bytes.now c.split_first.result
    x xs c.new.ensures fits joined c.split_first.ensures.item c.split_first.ensures.rest c.split_first.ensures.fault

pub returns-clause-end : goal.returns-clause-end
returns-clause-end c = λ none. split_end (λ r. r.0.bytes) (λ r. r.1.now) (λ r. r.0.is_strict ≡ c.new.result.is_strict) c.new.result
    c.args.bytes.now c.split_first.result c.new.ensures none c.split_first.ensures.item c.split_first.ensures.fault
