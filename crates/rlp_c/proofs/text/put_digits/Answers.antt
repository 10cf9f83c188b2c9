use Rattle.std.proofs.{Common.{◌≡◌, ◌+◌, [], ◌∷◌, ◌++◌, codes, take, ap, refl, ◌∙◌, arith}, lemmas.List.{append_assoc, take_all}}
use Rattle.hex.specs.Hex.{encode_lower, encode_with}
use Rattle.rlp_format.proofs.HexDigits.{digits_of_more}
use Rattle.rlp_c.proofs.Texts.{put_as, put_both}
use Rattle.rlp_c.proofs.text.put_digits.Goals as goal

pub loop-byte-init : goal.loop-byte-init
unfolding encode_with
loop-byte-init c = c.put_bytes-place.ensures

pub loop-byte-preserved : goal.loop-byte-preserved
loop-byte-preserved c =
    let done = encode_lower (take c.loop-byte.byte-index c.args.string.now) in
    let pair = c.digit_char.result ∷ c.digit_char-in-loop-byte.result ∷ [] in
    let more : done ++ pair ≡ encode_lower (take (c.loop-byte.byte-index + 1) c.args.string.now) =
    rw (c.digit_char.ensures, c.digit_char-in-loop-byte.ensures) (digits_of_more c.args.string.now c.loop-byte.byte-index _ c.loop-byte-test.true refl (omega arith)) in
    put_as _ _ _ _ _ _ (append_assoc (codes "\"0x") done pair ∙ ap (λ s. codes "\"0x" ++ s) more)
    (put_both c.args.out.now c.loop-byte.out c.put_bytes-place-in-loop-byte.new.out c.args.at c.loop-byte.place c.put_bytes-place-in-loop-byte.result
    (codes "\"0x" ++ done) pair (omega arith) c.loop-byte.invariant c.put_bytes-place-in-loop-byte.ensures)

pub returns : goal.returns
returns c =
    let all = take_all c.loop-byte.byte-index c.args.string.now (omega (arith, c.loop-byte-test.false)) in
    put_as _ _ _ _ _ _ (ap (λ s. (codes "\"0x" ++ encode_lower s) ++ codes "\"") all)
    (put_both c.args.out.now c.loop-byte.out c.put_bytes.new.out c.args.at c.loop-byte.place c.put_bytes.result
    (codes "\"0x" ++ encode_lower (take c.loop-byte.byte-index c.args.string.now)) (codes "\"") (omega arith) c.loop-byte.invariant c.put_bytes.ensures)
