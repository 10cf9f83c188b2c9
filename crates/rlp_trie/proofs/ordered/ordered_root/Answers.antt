use Rattle.std.proofs.Common.{◌∙◌, ap, arith, map, refl, subst, sym}
use Rattle.std.specs.Vec.{vec_items}
use Rattle.std.proofs.lemmas.List.{length-map}
use Rattle.rlp_trie.specs.{Ordered.pairs_from, OrderedPairs.{HaveNibbles, seen_pair, slice_bytes}}
use Rattle.rlp_trie.proofs.OrderedBodies.{all_values, nibbles_from, pair_more}
use Rattle.rlp_trie.proofs.ordered.ordered_root.Goals as goal

pub loop-index-preserved : goal.loop-index-preserved
loop-index-preserved c =
    pair_more c.loop-index.index c.args.values.now c.in_ok-paths.paths.items c.index.result.now _ _ _ _ c.in_ok-push.ensures.items (c.as_slice.ensures.value ∙ ap vec_items c.index.ensures) refl c.loop-index-test.true c.in_ok-paths.ensures.0 c.in_ok-paths.ensures.1
    c.loop-index.invariant

pub node-requires : goal.node-requires
node-requires c =
    let values = c.args.values.now in
    subst HaveNibbles (sym (ap (map seen_pair) c.as_slice-2.ensures.value ∙ c.loop-index.invariant ∙ ap (pairs_from 0) (all_values c.loop-index.index values (omega arith))))
    (nibbles_from 0 (map slice_bytes values) (omega (arith, length-map values slice_bytes)))
