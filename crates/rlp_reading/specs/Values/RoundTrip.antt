-- What types promise about reading the encodings of their values.
use Rattle.std.specs.Prelude.{◌≡◌, ◌↔◌, ◌<◌, ◌^◌, ℕ, List, length}
use Rattle.rlp_reading.specs.{declared.error.DecoderError.DecoderError, Views.View.{View, strict_view_of, view_of}}
use Rattle.rlp_format.specs.{Format.Encoding.{Item, AreBytes, BeginsWith, encoding}, Values.Value.AreAlike}

-- A view reads a value back: it gives exactly the values that fit and are alike to that value, and has no fault.
pub record ReadsBack {A : Type 0} (Fits : A → Type 0) (item : A → Item) (gives : View → A → Type 0) (faults : View → DecoderError → Type 0)
    (view : View) (v : A) : Type 0 where
  pub alike : (w : A) → gives view w ↔ (Fits w × AreAlike item w v)
  pub no_fault : (e : DecoderError) → ¬ faults view e

-- Read strictly, bytes give a value if and only if the value fits and the bytes are the encoding of its item, and then the bytes have no fault.
pub record ReadsStrictly {A : Type 0} (Fits : A → Type 0) (item : A → Item) (gives : View → A → Type 0) (faults : View → DecoderError → Type 0)
    (b : List ℕ) (v : A) : Type 0 where
  pub exact : gives (strict_view_of b) v ↔ (Fits v × (b ≡ encoding (item v)))
  pub sound : Fits v → b ≡ encoding (item v) → (e : DecoderError) → ¬ faults (strict_view_of b) e

-- what the law of `RoundTrip` says about a type
abbrev pub AlwaysReadsBack : {A : Type 0} → (A → Type 0) → (A → Item) → (View → A → Type 0) → (View → DecoderError → Type 0) → Type 0
AlwaysReadsBack {A} Fits item gives faults = (b : List ℕ) (v : A) → length b < 2 ^ 64 → Fits v → BeginsWith b (encoding (item v))
    → ReadsBack Fits item gives faults (view_of b) v

-- what the law of `StrictRead` says about a type
abbrev pub AlwaysReadsStrictly : {A : Type 0} → (A → Type 0) → (A → Item) → (View → A → Type 0) → (View → DecoderError → Type 0) → Type 0
AlwaysReadsStrictly {A} Fits item gives faults = (b : List ℕ) (v : A) → AreBytes b → length b < 2 ^ 64 → ReadsStrictly Fits item gives faults b v
