-- Values of several types, which differ in being a list or a string, or in a tag, which is a number in front of a payload.
use Rattle.std.specs.Prelude.{ℕ, ◌⊎◌}
use Rattle.std.proofs.Common.{inl, inr}
use Rattle.rlp_format.specs.Format.Encoding.{Item}

-- P of a value on the left, and Q of a value on the right
abbrev pub OnSum : {A B : Type 0} → (A → Type 0) → (B → Type 0) → A ⊎ B → Type 0
OnSum P Q (inl x) = P x
OnSum P Q (inr y) = Q y

-- the item of a value of either type
abbrev pub sum_item : {A B : Type 0} → (A → Item) → (B → Item) → A ⊎ B → Item
sum_item item other (inl x) = item x
sum_item item other (inr y) = other y

-- the tag of a value on the left, or the tag of a value on the right
abbrev pub sum_tag : {A B : Type 0} → ℕ → (B → ℕ) → A ⊎ B → ℕ
sum_tag tag more (inl x) = tag
sum_tag tag more (inr y) = more y
