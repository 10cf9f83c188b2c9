use Rattle.std.proofs.Common.{◌<◌, ◌^◌, length, arith, sym, ◌∙◌}
use Rattle.rlp_format.proofs.Lemmas.Encodings.{front_sized}
use Rattle.rlp_reading.proofs.Lemmas.Items.{prefix_free}
use Rattle.rlp_reading.proofs.laws.encoding_in_front_is_unique.Goals as goal

pub returns : goal.returns
returns c = λ x y (p, e) (q, f).
    let fits : length c.args.bytes.now < 2 ^ 64 = omega arith in
    prefix_free x y p q (front_sized x c.args.bytes.now p fits e) (front_sized y c.args.bytes.now q fits f) (sym e ∙ f)
