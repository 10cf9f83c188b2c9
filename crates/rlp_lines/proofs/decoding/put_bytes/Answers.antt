use Rattle.std.proofs.Common.{◌∙◌, ◌≡◌, ◌/◌, ◌*◌, Ok, List, ℕ, IsTrue, arith, length, slice_index, subst, sym}
use Rattle.std.specs.List.{list_all}
use Rattle.hex.specs.Hex.{is_hex_digit, pair_value}
use Rattle.hex.proofs.{HexLemmas.decode_of-even, Pairs.decode_step}
use Rattle.rlp_lines.proofs.DigitLemmas.{both_digits, decoded, pair_at}
use Rattle.rlp_lines.proofs.decoding.put_bytes.Goals as goal

pub byte_of-requires : goal.byte_of-requires
byte_of-requires c = subst (λ (pair : List ℕ). IsTrue (list_all is_hex_digit pair))
    (sym (pair_at c.args.digits.now _ c.loop-i.i c.as_chunks.ensures.front (omega arith)))
    (both_digits c.args.digits.now c.loop-i.i (omega arith) c.requires.digits)

pub loop-i-preserved : goal.loop-i-preserved
loop-i-preserved c = decode_step _ _ _ c.byte_of.result (omega arith) (omega arith)
    (subst (λ (pair : List ℕ). pair_value (slice_index pair 0) (slice_index pair 1) (2 * c.loop-i.i) ≡ Ok c.byte_of.result)
    (pair_at c.args.digits.now _ c.loop-i.i c.as_chunks.ensures.front (omega arith)) (c.byte_of.ensures (2 * c.loop-i.i))) c.loop-i.invariant

pub returns : goal.returns
returns c = decode_of-even _ c.requires.two ∙ decoded _ _ _ (length c.args.digits.now / 2) (omega arith) (omega arith) c.loop-i.invariant
