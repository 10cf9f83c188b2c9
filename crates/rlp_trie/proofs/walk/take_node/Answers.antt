use Rattle.std.proofs.{Common.{◌≡◌, ◌∙◌, Ok, ap, map, rules, sym}, lemmas.Result.err_from_is_err_and}
use Rattle.std.specs.Vec.{vec_items}
use Rattle.rlp_trie.specs.{Child.child_item, ProofWalk.next_node}
use Rattle.rlp_trie.proofs.WalkLemmas.{inline_next, read_fails}
use Rattle.rlp_trie.proofs.walk.take_node.Goals as goal

pub returns-in_err-read_node-in-Node-clause-fault : goal.returns-in_err-read_node-in-Node-clause-fault
returns-in_err-read_node-in-Node-clause-fault c =
    let next : next_node (child_item c.args.child.now) (map vec_items c.args.nodes.now)
    ≡ Ok (c.in_ok-bytes-in-Node.bytes.now, map vec_items c.in_ok-bytes-in-Node.left.now) = search rules in
    let p = err_from_is_err_and c.from_residual-in_err-read_node-in-Node.result c.from_residual-in_err-read_node-in-Node.ensures.1 in
    rw (p.1, p.2) (read_fails (child_item c.args.child.now) (map vec_items c.args.nodes.now) (map vec_items c.in_ok-bytes-in-Node.left.now)
    c.in_ok-bytes-in-Node.bytes.now c.in_err-read_node-in-Node.field-0.0 next c.in_err-read_node-in-Node.ensures.fault)

pub returns-in_ok-read_node-in-Inline-clause-value : goal.returns-in_ok-read_node-in-Inline-clause-value
returns-in_ok-read_node-in-Inline-clause-value c =
    record {
      bytes = c.as_bytes-bytes.result.now;
      next = inline_next c.args.child.now c.in-Inline.inline c.as_bytes-bytes.result.now (map vec_items c.args.nodes.now) c.in-Inline.is c.as_bytes-bytes.ensures.bytes
          c.as_bytes-bytes.ensures.written ∙ ap (λ nodes. Ok (c.as_bytes-bytes.result.now, nodes)) (sym c.unless_repeated.ensures);
      are = c.in_ok-read_node-in-Inline.ensures.value;
    }

pub returns-in_err-read_node-in-Inline-clause-fault : goal.returns-in_err-read_node-in-Inline-clause-fault
returns-in_err-read_node-in-Inline-clause-fault c =
    let p = err_from_is_err_and c.from_residual-in_err-read_node-in-Inline.result c.from_residual-in_err-read_node-in-Inline.ensures.1 in
    rw (p.1, p.2) (read_fails (child_item c.args.child.now) (map vec_items c.args.nodes.now) _ c.as_bytes-bytes.result.now
    c.in_err-read_node-in-Inline.field-0.0
    (inline_next c.args.child.now c.in-Inline.inline c.as_bytes-bytes.result.now (map vec_items c.args.nodes.now) c.in-Inline.is c.as_bytes-bytes.ensures.bytes
    c.as_bytes-bytes.ensures.written)
    c.in_err-read_node-in-Inline.ensures.fault)
