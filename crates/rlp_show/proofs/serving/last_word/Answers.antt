use Rattle.std.proofs.Common.{◌≡◌, ℕ, ◌-◌, ◌<◌, List, [], ◌∷◌, length, get_or, map, string_bytes, suc, sym, ap, ◌∙◌, arith}
use Rattle.rlp_lines.specs.Lines.{last_of}
use Rattle.rlp_show.proofs.serving.last_word.Goals as goal

-- the last of the images is that of the last item
last_of-map : {A : Type 0} (f : A → List ℕ) (xs : List A) (x : A) → 0 < length xs → x ≡ get_or xs (length xs - 1) x → last_of (map f xs) ≡ f x
last_of-map f [] x some e = absurd (omega (arith, some))
last_of-map f (y ∷ []) x some e = ap f (sym e)
last_of-map f (y ∷ z ∷ rest) x some e =
    let n : length (y ∷ z ∷ rest) - 1 ≡ suc (length (z ∷ rest) - 1) = omega arith in
    last_of-map f (z ∷ rest) x (omega arith) (e ∙ ap (λ k. get_or (y ∷ z ∷ rest) k x) n)

pub returns-in-len1-up : goal.returns-in-len1-up
returns-in-len1-up c = c.as_str.ensures.value
    ∙ sym (last_of-map string_bytes c.args.words.now c.word-item.result (omega (arith, c.in-len1-up.len_at_least)) c.word-item.is)
