use Rattle.std.proofs.Common.{ap, sym, ◌∙◌, ◌∷◌, [], bit_xor, slice_index}
use Rattle.rlp_keccak.{specs.{Complements.{masked}, Keccak.{absorb, keccak_f}}, proofs.Sponge.{block_xored}}
use Rattle.rlp_keccak.proofs.keccak.absorb.Goals as goal

pub returns : goal.returns
unfolding absorb
returns c =
    c.keccak_f.ensures
    ∙ ap keccak_f ((λ t. masked (bit_xor (slice_index c.args.state.now 0) (c.lane.ensures t) ∷ bit_xor (slice_index c.args.state.now 1) (c.lane-2.ensures t) ∷ bit_xor (slice_index c.args.state.now 2) (c.lane-3.ensures t) ∷ bit_xor (slice_index c.args.state.now 3) (c.lane-4.ensures t) ∷ bit_xor (slice_index c.args.state.now 4) (c.lane-5.ensures t) ∷ bit_xor (slice_index c.args.state.now 5) (c.lane-6.ensures t) ∷ bit_xor (slice_index c.args.state.now 6) (c.lane-7.ensures t) ∷ bit_xor (slice_index c.args.state.now 7) (c.lane-8.ensures t) ∷ bit_xor (slice_index c.args.state.now 8) (c.lane-9.ensures t) ∷ bit_xor (slice_index c.args.state.now 9) (c.lane-10.ensures t) ∷ bit_xor (slice_index c.args.state.now 10) (c.lane-11.ensures t) ∷ bit_xor (slice_index c.args.state.now 11) (c.lane-12.ensures t) ∷ bit_xor (slice_index c.args.state.now 12) (c.lane-13.ensures t) ∷ bit_xor (slice_index c.args.state.now 13) (c.lane-14.ensures t) ∷ bit_xor (slice_index c.args.state.now 14) (c.lane-15.ensures t) ∷ bit_xor (slice_index c.args.state.now 15) (c.lane-16.ensures t) ∷ bit_xor (slice_index c.args.state.now 16) (c.lane-17.ensures t) ∷ slice_index c.args.state.now 17 ∷ slice_index c.args.state.now 18 ∷ slice_index c.args.state.now 19 ∷ slice_index c.args.state.now 20 ∷ slice_index c.args.state.now 21 ∷ slice_index c.args.state.now 22 ∷ slice_index c.args.state.now 23 ∷ slice_index c.args.state.now 24 ∷ []))
    ∙ sym (block_xored c.args.state.now c.args.block.now c.requires))
