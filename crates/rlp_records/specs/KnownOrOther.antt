-- How values of the types of EIP-2718 are written and read, also of types that aren't known.
use Rattle.std.{specs.Prelude.{ℕ, ◌≡◌, ◌⊎◌, List, Ok}, proofs.Common.{inl, inr}}
use Rattle.rlp.specs.{Codec.{Codec, lawful, newtype, plain}, Format.Encoding.string}
use Rattle.rlp_reading.specs.Form.{Answer, Fault}
use Rattle.rlp_records.specs.{Eip2718.{TypedSum, type_of, typed, typed_alone}, OtherEnvelope.{IsOther, is_other, or_string, other_type, string_or}}
use Rattle.rlp_records.specs.{OtherStringLaws.{is_known, known_apart, or_lawful}, declared.known_or_other.KnownOrOther.KnownOrOther}
use Rattle.rlp_records.specs.declared.known_or_other.KnownOrOther.TheVariants.{Known, Other}

-- a value of a type, or the string "TransactionType || TransactionPayload" of another type
abbrev pub kept : {A : Type 0} (c : Codec A) → ((x : A) (d : List ℕ) → IsOther d → ¬ (c.item x ≡ string d)) → Codec (A ⊎ List ℕ)
kept c apart = lawful (or_string (plain c) is_other) (or_lawful (plain c) is_other apart c.reads_strictly)

-- what the bytes of a standalone value give: the bytes of another type are kept as they are, and other bytes give what `read` gives
abbrev pub kept_alone : {M : Type 0} → (List ℕ → Answer M Fault) → List ℕ → Answer (M ⊎ List ℕ) Fault
kept_alone read d = string_or is_other (read d) (Ok d)

-- the value, or the bytes of another type
abbrev pub value_or_bytes : {A : Type 0} → KnownOrOther A → A ⊎ List ℕ
value_or_bytes (Known x) = inl x
value_or_bytes (Other d) = inr d

-- a value of a known type, or the string "TransactionType || TransactionPayload" of another type
abbrev pub with_others : {A : Type 0} → TypedSum A → Codec (KnownOrOther A)
with_others t = newtype value_or_bytes
    (kept (typed t) (λ x. known_apart t.legacy.item t.numbered.cases t.lists (λ y. is_known (t.numbered.cases.tag y) (t.known y)) (t.as_sum x)))

-- what the bytes of a standalone value give: the bytes of another type are a value as they are
abbrev pub any_alone : {A : Type 0} (t : TypedSum A) → List ℕ → Answer (with_others t).reading.M Fault
any_alone t = kept_alone (typed_alone t)

-- the number of the type, or 0 for the type without a number
abbrev pub any_type : {A : Type 0} → TypedSum A → KnownOrOther A → ℕ
any_type t (Known x) = type_of t x
any_type t (Other d) = other_type d
