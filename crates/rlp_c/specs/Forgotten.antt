-- Readings that keep nothing of what they read.
use Rattle.std.specs.Prelude.{◌≡◌, ⊤, true, [], length}
use Rattle.rlp_reading.specs.{Form.{FieldsReading, map_taken}, Laws.TakePossible}
use Rattle.rlp_reading.proofs.FieldLaws.{still_left}

-- the reading of a type that is read from the items of these fields, and keeps nothing of their values
abbrev pub forgotten : {P Q : Type 0} → FieldsReading P → FieldsReading Q
forgotten r = record {
  M = ⊤;
  seen = λ q. tt;
  items = λ m. [];
  read = λ vs. map_taken (λ x. tt) (r.read vs);
  accepts = r.accepts;
  width = r.width;
  is_fixed = r.is_fixed;
  takes_memory = r.takes_memory;
}

-- if the law `TakePossible` holds of fields, it also holds of the fields when they aren't kept
pub forgotten_possible : {P Q : Type 0} (r : FieldsReading P) → TakePossible r → TakePossible (forgotten {Q = Q} r)
forgotten_possible r law = record {
  all = λ vs.
      still_left (λ x. tt) (λ left. left ≡ [] → r.accepts (length vs) ≡ true) (λ left. left ≡ [] → r.accepts (length vs) ≡ true) (r.read vs).result (λ left possible. possible) (law.all vs);
}
