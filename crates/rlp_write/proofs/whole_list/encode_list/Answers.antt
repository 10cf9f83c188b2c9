use Rattle.std.proofs.Common.{◌≡◌, [], ◌∷◌, ◌++◌, map, ap, subst, ◌∙◌}
use Rattle.std.specs.Prelude.{IfOk}
use Rattle.rlp_format.specs.Format.Encoding.{join}
use Rattle.rlp_write.specs.Streams.Stream.{State}
use Rattle.rlp_write.proofs.Streams.Joined.{joined_list}
use Rattle.rlp_write.proofs.whole_list.encode_list.Goals as goal

pub returns-clause-bytes : goal.returns-clause-bytes
returns-clause-bytes g c =
    let items = map g.E.Encodable.item c.args.values.now in
    let first : c.extend_from_slice.new.self.items ≡ 0 ∷ [] =
    c.in_ok-extend_from_slice.ensures.ok ∙ ap (λ b. b ++ 0 ∷ []) c.in_ok-bytes.ensures.items in
    let front = c.in_ok-put_each.ensures.front ∙ ap (λ (s : State). s.front) c.new_with_buffer-s.ensures.state ∙ first in
    let top = c.in_ok-put_each.ensures.top ∙ ap (λ (s : State). s.stack.inner ++ join items) c.new_with_buffer-s.ensures.state in
    subst (λ e. IfOk c.list_alone.result (λ b. b.items ≡ e)) (joined_list items _ _ _ _ c.out.ensures.bytes front top) c.list_alone.ensures
