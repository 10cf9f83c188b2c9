use Rattle.std.proofs.Common.{◌≡◌, map, rules, subst, sym}
use Rattle.std.specs.Vec.{vec_items}
use Rattle.rlp.specs.Format.Encoding.{string}
use Rattle.rlp_format.proofs.Lemmas.Digits.{bytes_held}
use Rattle.rlp_trie.specs.{HexPrefix.{AreNibbles, nibbles_of}, Next.IsEnd}
use Rattle.rlp_trie.proofs.{PathLemmas.nibbles_are, WalkLemmas.end_proves}
use Rattle.rlp_trie.proofs.proof.verify_proof.Goals as goal

pub walk-requires : goal.walk-requires
walk-requires c =
    let whole : c.as_slice.result.now ≡ nibbles_of c.args.key.now = search rules in
    subst AreNibbles (sym whole) (nibbles_are c.args.key.now (bytes_held c.args.key.now c.type_inv.key))

pub returns-clause-proved : goal.returns-clause-proved
returns-clause-proved c =
    let ends : IsEnd (map vec_items c.args.nodes.now) (string c.args.root.now.0) (nibbles_of c.args.key.now) c.walk.result = search rules in
    end_proves (map vec_items c.args.nodes.now) (string c.args.root.now.0) (nibbles_of c.args.key.now) c.walk.result ends
