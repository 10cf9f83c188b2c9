-- The value that a view gives, and why it gives none: numbers, byte strings and text.
use Rattle.std.specs.Prelude.{ℕ, ◌≡◌, ◌⊎◌}
use Rattle.rlp_reading.specs.{declared.error.DecoderError.{DecoderError}, Views.Text.error_name, Views.View.{View, HoldsItem}}
use Rattle.rlp_format.specs.{Format.Encoding.Item, Values.Value.{number_item, FitsBytes, AreAlike}}

-- The view gives the value x: x fits its type, and the view holds its item.
pub record GivesValue {A : Type 0} (Fits : A → Type 0) (item : A → Item) (v : View) (x : A) : Type 0 where
  pub fits : Fits x
  pub begins : HoldsItem v (item x)

-- the view gives the number n, which has at most this number of bytes
abbrev pub GivesNumber : ℕ → View → ℕ → Type 0
GivesNumber width v n = GivesValue (FitsBytes width) number_item v n

-- two faults are the same if they are the same variant, and for `Custom` also have the same text
abbrev pub IsSameFault : DecoderError → DecoderError → Type 0
IsSameFault e f = error_name e ≡ error_name f

-- Either one value, if alike values count as one, or one fault. `Gives` says which values are read, and `Faults` which faults.
pub record HasOneReading {A : Type 0} (item : A → Item) (Gives : A → Type 0) (Faults : DecoderError → Type 0) : Type 0 where
  pub some : ((x : A) × Gives x) ⊎ ((e : DecoderError) × Faults e)
  pub one_value : (x y : A) → Gives x → Gives y → AreAlike item x y
  pub one_fault : (e f : DecoderError) → Faults e → Faults f → IsSameFault e f
  pub not_both : (x : A) (e : DecoderError) → Gives x → ¬ Faults e
