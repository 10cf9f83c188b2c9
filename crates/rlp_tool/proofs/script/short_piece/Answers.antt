use Rattle.std.proofs.Common.{◌≡◌, ◌∙◌, ◌∷◌, ap, drop, refl, rules, take}
use Rattle.rlp_tool.specs.{Pieces.front_piece, Script.call_in}
use Rattle.rlp_tool.proofs.CutLemmas.{byte_call}
use Rattle.rlp_tool.proofs.script.short_piece.Goals as goal

pub returns-in-100-clause-read : goal.returns-in-100-clause-read
returns-in-100-clause-read c =
    let digits = take 2 (drop 2 c.args.text.now) in
    let front : front_piece c.args.text.now ≡ 100 ∷ 58 ∷ digits = search rules in
    let pairs = c.if-are_pairs.ensures.some refl in
    (tt, ap call_in front ∙ byte_call digits c.byte_of.result pairs.0 pairs.1 c.byte_of.ensures)
