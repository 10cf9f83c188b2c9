use Rattle.std.proofs.Common.{rules, sym, ap, ◌∙◌}
use Rattle.rlp_reading.specs.Format.Framing.{framing}
use Rattle.rlp_reading.proofs.{Lemmas.Frames.item_some, Lemmas.Texts.framing-followed, Lemmas.Numbered.no_bytes}
use Rattle.rlp_c.proofs.Splitting.{splitting_ends, splitting_one}
use Rattle.rlp_c.proofs.split.split_payload.Goals as goal

pub loop-rest-preserved : goal.loop-rest-preserved
loop-rest-preserved c =
    splitting_one c.args.payload.now c.loop-rest.rest.now c.in_ok-item.item.item.now c.in_ok-item.others.now c.args.place c.in_ok-item.item.header c.args.out.now
    c.loop-rest.out c.put.new.out c.loop-rest.count c.loop-rest.invariant c.in_ok-item.ensures.parts c.in_ok-item.ensures.whole
    (sym (framing-followed c.in_ok-item.item.item.now c.in_ok-item.others.now c.in_ok-item.ensures.item) ∙ ap framing (sym c.in_ok-item.ensures.whole) ∙ c.in_ok-item.ensures.header)
    (item_some c.in_ok-item.item.item.now c.in_ok-item.ensures.item) (search rules)

pub returns : goal.returns
returns c =
    let w = splitting_ends c.args.payload.now c.loop-rest.rest.now c.args.place c.args.out.now c.loop-rest.out c.loop-rest.count c.loop-rest.invariant
    (no_bytes c.loop-rest.rest.now c.loop-rest-test.ensures) in
    record { fault = w.no_fault; count = w.counted; rows = w.rows }
