use Rattle.std.proofs.Common.{◌≡◌, ◌&&◌, ℕ, Bool, true, false, map, nat_lt, sym, ap, ◌∙◌}
use Rattle.rlp.specs.Codec.{uint}
use Rattle.rlp_headers.specs.{AccessOrder.{first_before, in_order, slot_inside}, Changes.slot_changes}
use Rattle.rlp_headers.proofs.block_access_list.is_storage_in_order.Goals as goal

both : (a b s r : Bool) → a ≡ s → b ≡ r → a ≡ true → b ≡ (s && r)
both a b s r first second holds = second ∙ sym (ap (λ t. t && r) (sym first ∙ holds))

first_not : (a s r : Bool) → a ≡ s → a ≡ false → a ≡ (s && r)
first_not a s r first not = not ∙ sym (ap (λ t. t && r) (sym first ∙ not))

pub returns-then-are_in_order : goal.returns-then-are_in_order
returns-then-are_in_order c =
    both _ _ _ _ (c.are_in_order.ensures ∙ ap (λ xs. in_order first_before slot_inside (map slot_changes.reading.seen xs)) c.as_slice.ensures.value)
    (c.are_in_order-then-are_in_order.ensures
    ∙ ap (λ xs. in_order nat_lt (λ (n : ℕ). true) (map (uint 32).reading.seen xs)) c.as_slice-then-are_in_order.ensures.value)
    c.if-are_in_order.true

pub returns-else-are_in_order : goal.returns-else-are_in_order
returns-else-are_in_order c =
    first_not _ _ _ (c.are_in_order.ensures ∙ ap (λ xs. in_order first_before slot_inside (map slot_changes.reading.seen xs)) c.as_slice.ensures.value)
    c.if-are_in_order.false
