use Rattle.std.proofs.Common.{◌≡◌, rules, subst}
use Rattle.rlp.specs.Format.Encoding.{AreBytes}
use Rattle.rlp_trie.specs.HexPrefix.{is_leaf_flag}
use Rattle.rlp_trie.proofs.PathLemmas.{path_read}
use Rattle.rlp_trie.proofs.path.Path.nibbles.Goals as goal

pub returns-clause-encoded : goal.returns-clause-encoded
returns-clause-encoded g c =
    let same : c.as_slice.result.now ≡ c.args.self.now.bytes.items = search rules in
    path_read (is_leaf_flag g.row.FLAG) c.args.self.now.bytes.items c.path_nibbles.result (subst AreBytes same c.path_nibbles.ensures.bytes)
    c.args.self.now.encoded (search rules)
