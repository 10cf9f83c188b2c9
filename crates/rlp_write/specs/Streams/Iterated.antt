-- What an iterator gives.
use Rattle.std.specs.{Prelude.{List, Option}, Iterator.Drains}

-- The iterator of x gives these items, in order, and then ends. `becomes` says which iterator x becomes, and `steps` what each call of it gives.
abbrev pub GivesAll : {U T A : Type 0} → (U → T → Type 0) → (T → Option A → T → Type 0) → U → List A → Type 0
GivesAll {U} {T} {A} becomes steps x xs = (it : T) × becomes x it × Drains steps it xs
