use Rattle.std.proofs.Common.{◌++◌, List, map, ap, length, ◌∙◌}
use Rattle.rlp_reading.specs.{Views.View.View, Form.{map_value, take_each}}
use Rattle.rlp_reading.proofs.GroupLaws.{one_group, one_pushed}
use Rattle.rlp.proofs.structs.groups.GroupsDecodeFields.decode_fields.Goals as goal

pub loop-alloc-preserved : goal.loop-alloc-preserved
loop-alloc-preserved g c =
    let r = g.G.DecodeFields.reading in
    let some = c.loop-alloc.invariant.2 in (
      rw c.in_ok-push-in-Ok.ensures.items
          (c.loop-alloc.invariant.0
          ∙ ap (map_value (λ (t : List r.M × List View). (map r.seen c.loop-alloc.groups.items ++ t.0, t.1)))
          (one_group r g.met.G.FixedFields.takes some _ _ _ c.in-Ok.ensures.value)
          ∙ one_pushed r.seen c.loop-alloc.groups.items c.in-Ok.group (take_each r.read (length c.decode_fields.new.fields.views) c.decode_fields.new.fields.views).result),
      c.in-Ok.ensures.after ∙ c.loop-alloc.invariant.1,
      some,
    )
