use Rattle.std.proofs.Common.{◌++◌, map, codes, length, sym, arith}
use Rattle.rlp_reading.specs.{Format.Framing.items, Views.Text.{separated, text}}
use Rattle.rlp_reading.proofs.Lemmas.Texts.{done-all, length-framed, text-list}
use Rattle.rlp_c.proofs.Texts.{put_as, put_both}
use Rattle.rlp_c.proofs.text.+put_framed.Goals as goal

pub returns : goal.returns
returns t c =
    let some = length-framed c.args.framed.now.item.now c.args.framed.now.content.now c.args.framed.now.reads in
    let all = done-all c.loop-item.invariant.done (items c.args.framed.now.item.now) c.loop-item.rest.now c.loop-item.invariant.all c.in_default.ensures.parts in
    put_as _ _ _ _ _ _
    (text-list c.args.framed.now.item.now c.args.framed.now.content.now c.loop-item.invariant.done some (sym c.if-not-is_list.ensures)
    c.args.framed.now.reads all)
    (put_both c.args.out.now c.loop-item.out c.put_bytes.new.out c.args.at c.loop-item.place c.put_bytes.result
    (codes "[" ++ separated (map text c.loop-item.invariant.done)) (codes "]") (omega arith) c.loop-item.invariant.put c.put_bytes.ensures)
