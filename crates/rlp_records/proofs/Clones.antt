-- Clones are seen as what they are clones of.
use Rattle.std.{proofs.Common.{◌≡◌, refl, List, [], ◌∷◌}, specs.{Prelude.map, List.AllZip}}

-- lists of values that are seen alike are seen alike
pub clones_seen : {A M : Type 0} (R : A → A → Type 0) (seen : A → M) → ((x y : A) → R x y → seen y ≡ seen x)
    → (xs ys : List A) → AllZip R xs ys → map seen ys ≡ map seen xs
clones_seen R seen same [] [] all = refl
clones_seen R seen same [] (y ∷ ys) all = absurd all
clones_seen R seen same (x ∷ xs) [] all = absurd all
clones_seen R seen same (x ∷ xs) (y ∷ ys) all = let first = same x y all.0 in let rest = clones_seen R seen same xs ys all.1 in cc
