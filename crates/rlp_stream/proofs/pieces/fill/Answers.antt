use Rattle.std.proofs.Common.{rules, ◌∙◌, ap, take}
use Rattle.std.proofs.lemmas.List.{with_items_is, places}
use Rattle.rlp_stream.proofs.PieceLemmas.{AppendsRead-more}
use Rattle.rlp_stream.proofs.pieces.fill.Goals as goal

pub loop-filled-preserved : goal.loop-filled-preserved
loop-filled-preserved g c =
    let room = c.make_room.new.out in
    let bytes = c.read_at.new.bytes in
    let filled = c.loop-filled.filled in
    record {
      within = search (rules, places);
      ends = c.make_room.ensures.ends;
      read = rw (with_items_is room bytes (search (rules, places)))
          (AppendsRead-more _ _ _ _ c.loop-filled.out.items bytes filled c.in-Ok.count
          (c.read_at.ensures.front ∙ ap (take filled) c.as_mut_slice.ensures.value ∙ c.make_room.ensures.front) c.loop-filled.invariant.read
          c.in-Ok.ensures.ok);
    }
