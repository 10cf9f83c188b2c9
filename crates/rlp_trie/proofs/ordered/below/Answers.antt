use Rattle.std.proofs.Common.{map, refl, sym, ap, ◌∙◌}
use Rattle.rlp_trie.specs.OrderedPairs.{seen_pair}
use Rattle.rlp_trie.proofs.OrderedBodies.{below_passed, below_pushed}
use Rattle.rlp_trie.proofs.ordered.below.Goals as goal
use Rattle.rlp_trie.proofs.ordered.below.Goals.{then-begins_with+in_ok-push, else-begins_with}

pub loop-pair-preserved : goal.loop-pair-preserved
loop-pair-preserved c = elim c.if-begins_with.branch [
  | then-begins_with+in_ok-push w ↦
      ap (λ v. map seen_pair v.items) w.found-is
      ∙ below_pushed _ _ _ _ _ _ _ w.in_ok-push.ensures.items w.after.ensures refl c.loop-pair-test.true
      (sym c.begins_with.ensures ∙ w.if-begins_with.true) c.loop-pair.invariant
  | else-begins_with w ↦
      ap (λ v. map seen_pair v.items) w.found-is
      ∙ below_passed _ _ _ _ _ c.loop-pair-test.true (sym c.begins_with.ensures ∙ w.if-begins_with.false) c.loop-pair.invariant
]
