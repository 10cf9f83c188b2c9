use Rattle.std.proofs.Common.{rules, ℕ, ◌≡◌, ◌∙◌, ◌-◌, ◌++◌, IfOk, ap, arith, drop, get_or, length, map, subst, sym}
use Rattle.std.proofs.lemmas.Grind.{common_steps}
use Rattle.rlp.specs.Format.Encoding.{encoding, join}
use Rattle.rlp_trie.specs.OrderedPairs.{HaveNibbles, seen_pair, without}
use Rattle.rlp_trie.specs.Ordered.{below, in_turn, node, reference}
use Rattle.rlp_trie.proofs.OrderedBodies.{branch_done, join_push, nibbles_below, nibbles_first, nibbles_without, node_branch, node_extension, own_is, own_nibbles}
use Rattle.rlp_trie.proofs.ordered.+node.Goals as goal

pub node-requires : goal.node-requires
node-requires t c = (
  omega arith,
  subst HaveNibbles (sym (ap (map seen_pair) c.as_slice.ensures.value ∙ c.in_ok-found.ensures)) (nibbles_below c.loop-nibble.nibble (map seen_pair c.args.pairs.now) c.requires),
)

pub loop-nibble-preserved : goal.loop-nibble-preserved
loop-nibble-preserved t c =
    let f = (λ (k : ℕ). node (c.args.turns - 1) (below k (map seen_pair c.args.pairs.now))) in
    let same : c.as_slice-in-loop-nibble.result.now ≡ encoding (f c.loop-nibble.nibble) =
    c.as_slice-in-loop-nibble.ensures ∙ c.in_ok-inner.ensures
    ∙ ap (λ ps. encoding (node (c.args.turns - 1) ps)) (ap (map seen_pair) c.as_slice.ensures.value ∙ c.in_ok-found.ensures) in
    c.in_ok-put_reference.ensures (f c.loop-nibble.nibble) same
    ∙ ap (λ b. b ++ encoding (reference (f c.loop-nibble.nibble))) c.loop-nibble.invariant
    ∙ sym (join_push (λ k. reference (f k)) c.loop-nibble.nibble)

pub returns-then-is_empty : goal.returns-then-is_empty
returns-then-is_empty t c =
    let f = (λ (k : ℕ). node (c.args.turns - 1) (below k (map seen_pair c.args.pairs.now))) in
    let last : c.loop-nibble.nibble ≡ 16 = omega arith in
    let all : c.loop-nibble.items.items ≡ join (in_turn (λ k. reference (f k)) 0 16) =
    subst (λ n. c.loop-nibble.items.items ≡ join (in_turn (λ k. reference (f k)) 0 n)) last c.loop-nibble.invariant in
    subst (λ e. IfOk c.list_of.result (λ b. b.items ≡ e))
    (branch_done f c.loop-nibble.items.items _ (c.as_slice-then-is_empty.ensures ∙ c.in_ok-extend_from_slice.ensures.ok) all
    ∙ ap encoding (sym (node_branch c.args.turns c.args.pairs.now c.in-Some.first.now c.shared-own.result.now (omega arith) (grind (arith, common_steps)) (own_is _ c.args.pairs.now c.in-Some.first.now c.in-Some.first.now c.shared-own.ensures c.in-Some.ensures.item.1) (search rules))))
    c.list_of.ensures

pub node-requires-2 : goal.node-requires-2
node-requires-2 t c = (
  omega arith,
  subst HaveNibbles (sym (ap (map seen_pair) c.as_slice-2.ensures.value ∙ c.in_ok-rest.ensures)) (nibbles_without (length c.shared-own.result.now) (map seen_pair c.args.pairs.now) c.requires),
)

pub extension-requires : goal.extension-requires
extension-requires t c =
    let xs = c.args.pairs.now in
    let d = c.in-Some.first.now in
    own_nibbles c.shared-own.result.now (get_or xs 0 d).path.now (map seen_pair (drop 1 xs)) (own_is c.shared-own.result.now xs d d c.shared-own.ensures c.in-Some.ensures.item.1)
    (nibbles_first xs d (grind (arith, common_steps)) c.requires)

pub returns : goal.returns
returns t c =
    let x = node (c.args.turns - 1) (without (length c.shared-own.result.now) (map seen_pair c.args.pairs.now)) in
    let same : c.as_slice-3.result.now ≡ encoding x =
    c.as_slice-3.ensures ∙ c.in_ok-inner-2.ensures
    ∙ ap (λ ps. encoding (node (c.args.turns - 1) ps)) (ap (map seen_pair) c.as_slice-2.ensures.value ∙ c.in_ok-rest.ensures) in
    subst (λ e. IfOk c.extension.result (λ b. b.items ≡ e))
    (ap encoding (sym (node_extension c.args.turns c.args.pairs.now c.in-Some.first.now c.shared-own.result.now (omega arith) (grind (arith, common_steps)) (own_is _ c.args.pairs.now c.in-Some.first.now c.in-Some.first.now c.shared-own.ensures c.in-Some.ensures.item.1) (search rules))))
    (c.extension.ensures x same)
