-- Values of the types of EIP-2718: transactions or receipts. A value of the type without a number is a list, and a value of a type with a number is an envelope.
use Rattle.std.{specs.Prelude.{ℕ, ◌≡◌, ◌<◌, ◌⊎◌, true, List, Option, Some, None, refl}, proofs.Common.{inl, inr}}
use Rattle.rlp.specs.{Codec.{Cases, Codec, enveloped, list_or_string, newtype}, Format.Encoding.{Item, is_list}, Values.Sums.sum_item, Views.View.View}
use Rattle.rlp_reading.specs.Form.{Answer, Fault, map_answer}
use Rattle.rlp_records.specs.{Alone.read_alone, Envelope.four_types, OtherEnvelope.authorization_magic, OtherStringLaws.below_magic}

-- The types that a value may have: the codec of the type without a number, whose values are lists, and the codecs of the types with a number, each number below the
-- MAGIC of EIP-7702.
pub record TypedSum (A : Type 0) : Type 1 where
  pub Legacy : Type 0
  pub Numbered : Type 0
  pub as_sum : A → Legacy ⊎ Numbered
  pub legacy : Codec Legacy
  pub numbered : Cases Numbered
  pub lists : (x : Legacy) → is_list (legacy.item x) ≡ true
  pub known : (y : Numbered) → numbered.cases.tag y < authorization_magic

-- a value is written as a list, or as the string "TransactionType || TransactionPayload"
abbrev pub typed : {A : Type 0} → TypedSum A → Codec A
typed t = newtype t.as_sum (list_or_string t.legacy (enveloped t.numbered) t.lists (λ y. refl))

-- what the bytes of a standalone value give
abbrev pub typed_alone : {A : Type 0} (t : TypedSum A) → List ℕ → Answer (typed t).reading.M Fault
typed_alone t d = read_alone t.legacy.reading.read t.numbered.cases.read d

-- the number of the type on the right
abbrev pub number_on_right : {A B : Type 0} → (B → ℕ) → A ⊎ B → Option ℕ
number_on_right tag (inl x) = None
number_on_right tag (inr y) = Some (tag y)

-- the number of the value's type, if the type has one
abbrev pub type_number : {A : Type 0} → TypedSum A → A → Option ℕ
type_number t x = number_on_right t.numbered.cases.tag (t.as_sum x)

-- the number, or 0 for no number
abbrev pub number_or_zero : Option ℕ → ℕ
number_or_zero None = 0
number_or_zero (Some kind) = kind

-- the number of the value's type, and 0 for the type without a number
abbrev pub type_of : {A : Type 0} → TypedSum A → A → ℕ
type_of t x = number_or_zero (type_number t x)

-- the list, or the item of the payload in the envelope
abbrev pub payload_item : {A : Type 0} → TypedSum A → A → Item
payload_item t x = sum_item t.legacy.item t.numbered.cases.item (t.as_sum x)

-- what a payload gives that is read as the payload of the type with this number, or as a value of the type without a number
abbrev pub read_payload : {A : Type 0} (t : TypedSum A) → Option ℕ → View → Answer (typed t).reading.M Fault
read_payload t None v = map_answer inl (t.legacy.reading.read v)
read_payload t (Some kind) v = map_answer inr (t.numbered.cases.read kind v)

-- ---- the types of Ethereum

-- Values of the type without a number, or of one of these types. `λ x. refl` proves that a value of the type without a number is a list.
abbrev pub typed_by : {S L A B C D : Type 0} → (S → L ⊎ (A ⊎ (B ⊎ (C ⊎ D)))) → (l : Codec L) → ((x : L) → is_list (l.item x) ≡ true)
    → Codec A → Codec B → Codec C → Codec D → TypedSum S
typed_by {L = L} {A = A} {B = B} {C = C} {D = D} as_sum l lists a b c d = record {
  Legacy = L;
  Numbered = A ⊎ (B ⊎ (C ⊎ D));
  as_sum = as_sum;
  legacy = l;
  numbered = four_types a b c d;
  lists = lists;
  known = below_magic a b c d;
}
