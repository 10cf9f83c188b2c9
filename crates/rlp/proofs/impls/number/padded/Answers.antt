use Rattle.std.proofs.{Common.{◌≡◌, ℕ, ◌+◌, ◌≤◌, List, [], ◌++◌, take, drop, replicate, ap, ◌∙◌, arith, append-nil, length-drop}, lemmas.List.{length-replicate, nil_from_length}}
use Rattle.std.specs.Int.Digits.{number_from_digits}
use borrow.Rule.Slice.PartMut.{post_of, put_mid}
use Rattle.rlp_reading.proofs.Lemmas.StringsHeld.{zeros_in_front}
use Rattle.rlp.proofs.impls.number.padded.Goals as goal

-- digits that replace the last zeros write the same number
last_put : (n a k : ℕ) (ds digits : List ℕ) → ds ≡ digits → n ≤ a + k → number_from_digits 256 (put_mid a k (replicate n 0) ds) ≡ number_from_digits 256 digits
last_put n a k ds digits is few =
    let zeros : List ℕ = replicate n 0 in
    let none : post_of a k zeros ≡ [] = nil_from_length (post_of a k zeros)
    (omega (arith, length-drop k (drop a zeros), length-drop a zeros, length-replicate {A = ℕ} n 0)) in
    ap (λ rest. number_from_digits 256 (take a zeros ++ (ds ++ rest))) none
    ∙ ap (λ s. number_from_digits 256 (take a zeros ++ s)) (append-nil ds ∙ is)
    ∙ zeros_in_front a n digits

pub returns : goal.returns
returns g c = last_put g.row.N _ _ c.copy_from_slice.new.self c.args.digits.now c.copy_from_slice.ensures.after
    (omega (arith, length-replicate {A = ℕ} g.row.N 0))
