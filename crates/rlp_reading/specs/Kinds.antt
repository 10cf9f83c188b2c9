-- Types whose values are strings of several kinds.
use Rattle.std.specs.Prelude.{ℕ, List, Result}
use Rattle.rlp_reading.specs.Form.{Fault, map_value}

-- What a string of a type with several kinds of strings gives: the kind of the string, and the bytes. `kind_of` says which kind a string has, or why it has none.
abbrev pub read_kind : {K : Type 0} → (List ℕ → Result K Fault) → List ℕ → Result (K × List ℕ) Fault
read_kind kind_of d = map_value (λ k. (k, d)) (kind_of d)
