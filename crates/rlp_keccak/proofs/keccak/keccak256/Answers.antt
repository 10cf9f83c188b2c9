use Rattle.std.proofs.{Common.{◌≡◌, ◌∙◌, ◌+◌, ◌-◌, ◌*◌, arith, sym, refl, length, ◌/◌}, lemmas.List.take_rest}
use Rattle.rlp_keccak.{specs.{Complements.{complement, masked}, Keccak.{absorbed}}, proofs.Sponge.{absorbed_next, hash_of}}
use Rattle.rlp_keccak.proofs.keccak.keccak256.Goals as goal

pub whole-init : goal.whole-init
unfolding absorbed masked complement
whole-init c = refl

pub whole-preserved : goal.whole-preserved
whole-preserved c =
    let i = c.whole.i in
    let width : 136 * i + 136 - 136 * i ≡ 136 = omega arith in
    let turned : 136 * i ≡ i * 136 = omega arith in
    rw (c.absorb.ensures, c.whole.invariant, width, turned) (sym (absorbed_next c.args.bytes.now i))

pub returns : goal.returns
returns c =
    let m = c.args.bytes.now in
    let done : c.whole.i ≡ length m / 136 = omega arith in
    let state = rw done at c.whole.invariant in
    c.digest.ensures ∙ hash_of m _ _ _ (take_rest m (136 * (length m / 136))) c.last_block.ensures (rw state at c.absorb-2.ensures)
