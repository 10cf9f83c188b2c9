use Rattle.std.proofs.Common.{◌<◌, ◌++◌, ◌∷◌, [], ◌∙◌, ap, append-nil, length, refl, sym, rules}
use Rattle.rlp_reading.specs.Format.Framing.{split}
use Rattle.rlp_reading.proofs.{Lemmas.Texts.{length-framed, text-list, text-string, texts-more, separator_after-more, item-shorter, done-next}, Pieces.{put_append, put_of_eq, put_waits}}
use Rattle.rlp_reading.proofs.Lemmas.Texts.{done-more, done-all, items-list}
use Rattle.rlp_reading.proofs.text.+write_framed.Goals as goal

pub write_framed-requires : goal.write_framed-requires
write_framed-requires g t c κs within =
    let next = done-next _ _ _ _ c.next_framed.new.self.rest c.loop-item.invariant.all c.in-Ok.ensures.parts in
    let shorter : length c.in-Ok.item.item.now < length c.args.framed.now.item.now =
    item-shorter c.args.framed.now.item.now c.in-Ok.item.item.now c.loop-item.invariant.done (split c.next_framed.new.self.rest) next in
    search rules

pub loop-item-init : goal.loop-item-init
loop-item-init g t c = record {
  done = [];
  all = ap split c.new-items.ensures.rest
      ∙ sym (items-list c.args.framed.now.item.now c.args.framed.now.content.now (sym c.if-not-is_list.ensures) c.args.framed.now.reads);
  next_separator = refl;
  put = λ flush. put_waits _ _ _ _ _ flush (sym (append-nil _));
}

pub loop-item-preserved-in_ok-write_framed : goal.loop-item-preserved-in_ok-write_framed
loop-item-preserved-in_ok-write_framed g t c = record {
  done = c.loop-item.invariant.done ++ c.in-Ok.item.item.now ∷ [];
  all = done-more c.loop-item.invariant.done _ c.loop-item.items.rest _ _ c.loop-item.invariant.all c.in-Ok.ensures.parts;
  next_separator = separator_after-more c.loop-item.invariant.done c.in-Ok.item.item.now;
  put = λ flush.
      let before = c.loop-item.invariant.put flush in
      let separated = c.in_ok-write_separator.ensures before.wrote.flush (search rules) in
      let put = c.in_ok-write_framed.ensures separated.wrote.flush (search rules) in
      put_of_eq _ _ _ _ _ _ _ (texts-more c.loop-item.invariant.done c.in-Ok.item.item.now _ c.loop-item.invariant.next_separator)
      (put_append _ _ _ _ _ _ _ _ _ before (put_append _ _ _ _ _ _ _ _ _ separated put));
}

pub loop-item-preserved : goal.loop-item-preserved
loop-item-preserved g t c = record {
  done = c.loop-item.invariant.done ++ c.in-Ok.item.item.now ∷ [];
  all = done-more c.loop-item.invariant.done _ c.loop-item.items.rest _ _ c.loop-item.invariant.all c.in-Ok.ensures.parts;
  next_separator = separator_after-more c.loop-item.invariant.done c.in-Ok.item.item.now;
  put = λ flush.
      let before = c.loop-item.invariant.put flush in
      let separated = c.in_ok-write_separator.ensures before.wrote.flush (search rules) in
      let some = length-framed c.in-Ok.item.item.now c.in-Ok.item.content.now c.in-Ok.item.reads in
      let is = text-string c.in-Ok.item.item.now c.in-Ok.item.content.now some (sym c.if-is_list.ensures) c.in-Ok.item.reads in
      let put = put_of_eq _ _ _ _ _ _ _ is (c.in_ok-write_string.ensures separated.wrote.flush (search rules)) in
      put_of_eq _ _ _ _ _ _ _ (texts-more c.loop-item.invariant.done c.in-Ok.item.item.now _ c.loop-item.invariant.next_separator)
      (put_append _ _ _ _ _ _ _ _ _ before (put_append _ _ _ _ _ _ _ _ _ separated put));
}

pub returns : goal.returns
returns g t c flush ok =
    let some = length-framed c.args.framed.now.item.now c.args.framed.now.content.now c.args.framed.now.reads in
    let opened = c.in_ok-put.ensures flush (search rules) in
    let put = c.loop-item.invariant.put opened.wrote.flush in
    let closed = c.put-2.ensures put.wrote.flush ok in
    let all = done-all _ _ c.loop-item.items.rest c.loop-item.invariant.all c.in_default.ensures.parts in
    put_of_eq _ _ _ _ _ _ _
    (text-list _ _ c.loop-item.invariant.done some (sym c.if-not-is_list.ensures) c.args.framed.now.reads all)
    (put_append _ _ _ _ _ _ _ _ _ (put_append _ _ _ _ _ _ _ _ _ opened put) closed)
