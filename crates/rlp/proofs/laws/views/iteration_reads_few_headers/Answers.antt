use Rattle.std.proofs.Common.{◌≡◌, ◌≤◌, ◌+◌, List, [], ◌∷◌, length, None, ap, sym, ◌∙◌, arith}
use Rattle.std.specs.Iterator.{Yields}
use Rattle.rlp_reading.specs.Views.View.{IsStep, Remaining, View}
use Rattle.rlp.proofs.laws.views.iteration_reads_few_headers.Goals as goal

-- the items that are given are the ones that are left
all_given : (start last end : Remaining) (given : List View) → Yields IsStep start given last → IsStep last None end → given ≡ start.left
all_given start last end [] ran none = sym (ap (λ (i : Remaining). i.left) ran ∙ none.steps.0)
all_given start last end (x ∷ given) ran none = ap (λ xs. x ∷ xs) (all_given ran.0 last end given ran.2 none) ∙ sym ran.1.steps

-- one header for each item
items_read : (start last : Remaining) (given : List View) → Yields IsStep start given last → last.headers ≤ start.headers + length given
items_read start last [] ran = let same : start.headers ≡ last.headers = ap (λ (i : Remaining). i.headers) ran in omega arith
items_read start last (x ∷ given) ran = omega (arith, items_read ran.0 last given ran.2, ran.1.headers)

pub returns : goal.returns
returns c = record {
  items = all_given;
  headers = λ start last end given one ran none. omega (arith, one, items_read start last given ran, none.headers);
}
