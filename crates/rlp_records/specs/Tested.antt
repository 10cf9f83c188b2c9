-- Types whose values are the values of another type that pass a test.
use Rattle.std.proofs.Common.{◌↔◌, Bool, ℕ, List}
use Rattle.rlp.specs.Codec.{Codec, lawful}
use Rattle.rlp_records.specs.{TestedForm.{Passes, tested_form}, TestedLaws.tested_lawful}

-- The values of a type that pass a test; reading any other value fails with `Custom` with this text. `Fits` says in its own words which values pass.
abbrev pub tested : {A : Type 0} → List ℕ → (c : Codec A) → (test : c.reading.M → Bool) → (Fits : A → Type 0) → ((x : A) → Fits x ↔ Passes c test x) → Codec A
tested text c test Fits same = lawful (tested_form text c test Fits) (tested_lawful text c test Fits same)
