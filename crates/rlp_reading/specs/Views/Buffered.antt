-- Text that is put into a buffer, and written from it, for private functions.
use Rattle.std.specs.{Prelude.{ℕ, ◌≡◌, List, ◌++◌, Result, IsOk}, Fmt.{HasWrittenStyled, IsFlush}, declared.fmt.Error.Error, declared.fmt.Formatter.Formatter}

-- a text was put: what was written and what waits now are what waited before and the text
pub record HasPut {W : Type 0} (took : W → List ℕ → W → Type 0) (f : Formatter W) (waited text : List ℕ) (g : Formatter W) (waits : List ℕ) : Type 0 where
  pub written : List ℕ
  pub wrote : HasWrittenStyled took f written g
  pub kept : written ++ waits ≡ waited ++ text

-- if the result is `Ok`, the text was put
abbrev pub PutsOnOk : {W : Type 0} → (W → List ℕ → W → Type 0) → Formatter W → List ℕ → Result (Unit {0}) Error → List ℕ → Formatter W → List ℕ → Type 0
PutsOnOk took f waited r text g waits = IsFlush f → IsOk r → HasPut took f waited text g waits
