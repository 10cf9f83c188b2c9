use Rattle.std.proofs.Common.{◌++◌, ◌∙◌, ap, append_assoc, codes, string_bytes}
use Rattle.rlp_show.specs.Lines.{digits_text}
use Rattle.rlp_show.proofs.texts.put_nibbles.Goals as goal

pub returns : goal.returns
returns c =
    let old = string_bytes c.args.out.now in
    let digits = digits_text c.args.path.now in
    c.in_ok-push_str-2.ensures.bytes ∙ ap (λ t. t ++ codes "])") (c.in_ok-put_digits.ensures ∙ ap (λ t. t ++ digits) c.in_ok-push_str.ensures.bytes)
    ∙ append_assoc (old ++ codes " (nibbles [") digits (codes "])") ∙ append_assoc old (codes " (nibbles [") (digits ++ codes "])")
