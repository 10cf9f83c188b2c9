use Rattle.std.proofs.Common.{◌≡◌, List, [], ◌∷◌, map, refl, sym, ap, ◌∙◌}
use Rattle.rlp_reading.proofs.Corollaries.{told_by_item}
use Rattle.rlp.specs.Codec.{plain}
use Rattle.rlp_examples.specs.Parcel.{parcel}
use Rattle.rlp_examples.proofs.parcel.items_tell_parcels.Goals as goal

map-itself : {A : Type 0} (xs : List A) → map (λ x. x) xs ≡ xs
map-itself [] = refl
map-itself (x ∷ xs) = ap (λ ys. x ∷ ys) (map-itself xs)

pub returns : goal.returns
returns c = λ fit other same sized.
    let seen = told_by_item (plain parcel) parcel.reads_back c.args.a.now c.args.b.now fit other same sized in (
      ap (λ m. m.0) seen,
      ap (λ m. m.1.0) seen,
      sym (map-itself _) ∙ ap (λ m. m.1.1.0) seen ∙ map-itself _,
      ap (λ m. m.1.1.1) seen,
    )
