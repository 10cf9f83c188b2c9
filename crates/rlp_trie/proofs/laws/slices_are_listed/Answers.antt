use Rattle.std.proofs.Common.{◌<◌, ◌^◌, arith, length, subst, take_all}
use Rattle.std.specs.Prelude.{All}
use Rattle.rlp_trie.proofs.Keys.{listed_all}
use Rattle.rlp_trie.proofs.laws.slices_are_listed.Goals as goal

pub returns : goal.returns
returns c =
    let values = c.args.values.now in
    listed_all values (omega arith) (subst (All (λ v. length v.now < 2 ^ 63)) (take_all c.loop-value.value-index values (omega arith)) c.loop-value.invariant)
