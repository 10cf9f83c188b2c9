-- How the values of a type that pass a test are written and read.
use Rattle.std.proofs.Common.{◌≡◌, Bool, true, if◌then◌else◌, ℕ, List, Result, Ok, Err}
use Rattle.rlp.specs.Codec.{Codec}
use Rattle.rlp_reading.specs.Form.{Fault, Form, custom, go_on, here}

-- the value, if it passes the test, and else `Custom` with this text
abbrev pub passing : {M : Type 0} → List ℕ → (M → Bool) → M → Result M Fault
passing text test m = if test m then Ok m else Err (custom text)

-- the value fits, and passes the test
abbrev pub Passes : {A : Type 0} (c : Codec A) → (c.reading.M → Bool) → A → Type 0
Passes c test x = c.Fits x × (test (c.reading.seen x) ≡ true)

-- the form of a type, with the values that pass the test
abbrev pub tested_form : {A : Type 0} → List ℕ → (c : Codec A) → (c.reading.M → Bool) → (A → Type 0) → Form A
tested_form text c test Fits = record {
  Fits = Fits;
  item = c.item;
  reading = record {
    M = c.reading.M;
    seen = c.reading.seen;
    item = c.reading.item;
    read = λ v. go_on (c.reading.read v) (λ m. here (passing text test m));
    takes_memory = c.reading.takes_memory;
    Allocates = c.reading.Allocates;
  };
}
