-- How payloads are written and read, with their signatures and without.
use Rattle.std.specs.Prelude.{◌≡◌, List, ◌++◌, ◌∷◌, true}
use Rattle.rlp.specs.{Format.Encoding.{Item, list_of}, Codec.{Codec, Fields, end, field, group, newtype, struct_of}}
use Rattle.rlp_reading.specs.Form.{FieldsReading, Reading, group_before, one_field, struct_reading}
use Rattle.rlp_transactions.specs.{NonZeroScalar.scalar, declared.signed.Signed.Signed, declared.signed.Listed.Listed}

-- the list of the fields
abbrev pub listed : {T : Type 0} → Fields T → Codec (Listed T)
listed {T} f = newtype (λ (u : Listed T). u.0) (struct_of f)

-- the last two fields
abbrev pub both_numbers : {T V : Type 0} → Fields (Signed T V)
both_numbers {T} {V} = field (λ (x : Signed T V). x.r) scalar (field (λ (x : Signed T V). x.s) scalar end)

-- the fields of the payload, and then the fields of the signature
abbrev pub signed_fields : {T V : Type 0} (f : Fields T) → f.reading.is_fixed ≡ true → Codec V → Fields (Signed T V)
signed_fields {T} {V} f fixed c = group (λ (x : Signed T V). x.payload) f fixed (field (λ (x : Signed T V). x.v) c both_numbers)

-- the list of these fields
abbrev pub signed : {T V : Type 0} (f : Fields T) → f.reading.is_fixed ≡ true → Codec V → Codec (Signed T V)
signed f fixed c = struct_of (signed_fields f fixed c)

-- ---- the members of this codec, for types without known laws

abbrev pub signed_item : {T V : Type 0} → (T → List Item) → (V → Item) → Signed T V → Item
signed_item items v_item x = list_of (items x.payload ++ (v_item x.v ∷ both_numbers.items x))

abbrev pub SignedFits : {T V : Type 0} → (T → Type 0) → (V → Type 0) → Signed T V → Type 0
SignedFits Fit VFits x = Fit x.payload × (VFits x.v × both_numbers.Fits x)

abbrev pub signed_reading : {T V : Type 0} → FieldsReading T → Reading V → Reading (Signed T V)
signed_reading {T} {V} r s = struct_reading (group_before (λ (x : Signed T V). x.payload) r (group_before (λ x. x.v) (one_field s) both_numbers.reading))
