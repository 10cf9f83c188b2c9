-- How values are shown, by what contracts see of them. Each way to show values comes with what is told of a value: if two values are shown alike, what is told of
-- the two is equal.
use Rattle.std.specs.Prelude.{ℕ, suc, ◌==◌, ◌⊎◌, Bool, codes, List, [], map, Option, option_map, ⊤}
use Rattle.std.proofs.Common.{◌≡◌, ◌≤◌, refl, ap, arith, inl, inr}
use Rattle.rlp.specs.{Sums.sum_map, Values.Value.bit}
use Rattle.rlp_show.specs.DisplayLaws.{back_apart, bit_back, both_apart, content_same, either_apart, field_same, forms_apart, if_apart, list_apart, object_same}
use Rattle.rlp_show.specs.Value.{Content, number, type_byte, bytes, text, Entries, content, object, array, nothing, both, entry, by_form, entries_if, values_of}
use Rattle.rlp_show.specs.Value.{Display, Fields, Shows, on_either, told_both}
use Rattle.rlp_show.specs.declared.{sink.NumberKind.NumberKind, sink.NumberKind.TheVariants.Decimal, sink.NumberKind.TheVariants.Quantity, sink.BytesKind.BytesKind, sink.BytesKind.TheVariants.Any}

-- ---- contents

-- the number in a content, and the bytes in a content
abbrev pub content_number : Content → ℕ
content_number (number kind n) = n
content_number (type_byte n) = n
content_number c = 0

abbrev pub content_bytes : Content → List ℕ
content_bytes (bytes kind b) = b
content_bytes (text t) = t
content_bytes c = []

-- values that are shown as contents: different values have different contents
abbrev pub a_content : {M : Type 0} (make : M → Content) → ((m n : M) → make m ≡ make n → m ≡ n) → Display M
a_content {M} make apart = record { shown = λ m. content (make m); Told = M; told = λ m. m; apart = λ m n is. apart m n (content_same is) }

-- numbers of a kind
abbrev pub number_as : NumberKind → Display ℕ
number_as kind = a_content (number kind) (back_apart (number kind) content_number (λ n. refl))

-- numbers
abbrev pub a_number : Display ℕ
a_number = number_as Decimal

-- numbers that are hexadecimal in lines too
abbrev pub a_quantity : Display ℕ
a_quantity = number_as Quantity

-- numbers of types of EIP-2718
abbrev pub a_type : Display ℕ
a_type = a_content type_byte (back_apart type_byte content_number (λ n. refl))

-- bools, as 0 or 1
abbrev pub a_bit : Display Bool
a_bit = a_content (λ b. number Decimal (bit b)) (back_apart (λ b. number Decimal (bit b)) (λ c. content_number c == 1) bit_back)

-- bytes of a kind
abbrev pub bytes_as : BytesKind → Display (List ℕ)
bytes_as kind = a_content (bytes kind) (back_apart (bytes kind) content_bytes (λ b. refl))

-- byte strings
abbrev pub a_string : Display (List ℕ)
a_string = bytes_as Any

-- texts that need no escape in JSON
abbrev pub a_text : Display (List ℕ)
a_text = a_content text (back_apart text content_bytes (λ t. refl))

-- ---- lists and objects

-- lists of values
abbrev pub a_list : {M : Type 0} → Display M → Display (List M)
a_list d = record {
  shown = λ ms. array (values_of d.shown ms);
  Told = List d.Told;
  told = λ ms. map d.told ms;
  apart = list_apart d;
}

-- values, or their fields, that are shown as the value of another type in them
abbrev pub through : {R A M : Type 0} → (A → M) → Shows R M → Shows R A
through get d = record { shown = λ a. d.shown (get a); Told = d.Told; told = λ a. d.told (get a); apart = λ a b is. d.apart (get a) (get b) is }

-- an object with these fields
abbrev pub an_object : {M : Type 0} → Fields M → Display M
an_object f = record { shown = λ m. object (f.shown m); Told = f.Told; told = f.told; apart = λ m n is. f.apart m n (object_same is) }

-- ---- fields

-- no fields
abbrev pub end : {M : Type 0} → Fields M
end = record { shown = λ m. nothing; Told = ⊤; told = λ m. tt; apart = λ m n is. refl }

-- a field with its name in lines, its name in JSON and its value
abbrev pub named : {M : Type 0} → Display M → Fields (List ℕ × (List ℕ × M))
named {M} d = record {
  shown = λ f. entry f.0 f.1.0 (d.shown f.1.1);
  Told = d.Told;
  told = λ f. d.told f.1.1;
  apart = λ f g is. d.apart f.1.1 g.1.1 (field_same is);
}

-- the one field with this name, in lines and in JSON
abbrev pub one : {M : Type 0} → List ℕ → Display M → Fields M
one {M} name d = through (λ (m : M). (name, (name, m))) (named d)

-- fields that may be missing together
abbrev pub if_there : {M : Type 0} → Fields M → Fields (Option M)
if_there f = record { shown = λ o. entries_if f.shown o; Told = Option f.Told; told = λ o. option_map f.told o; apart = if_apart f }

-- the one field with this name, which may be missing
abbrev pub one_if : {M : Type 0} → List ℕ → Display M → Fields (Option M)
one_if {M} name d = through (option_map (λ (m : M). (name, (name, m)))) (if_there (named d))

-- fields, and then other fields
abbrev pub in_order : {M N : Type 0} → Fields M → Fields N → Fields (M × N)
in_order f more = record { shown = λ m. both (f.shown m.0) (more.shown m.1); Told = f.Told × more.Told; told = told_both f more; apart = both_apart f more }

-- fields in lines, and the fields in JSON in the place of these
abbrev pub in_forms : {M N : Type 0} → Fields M → Fields N → Fields (M × N)
in_forms f json = record { shown = λ m. by_form (f.shown m.0) (json.shown m.1); Told = f.Told × json.Told; told = told_both f json; apart = forms_apart f json }

-- values, or fields, that other fields determine, so that nothing is told of them
abbrev pub derived : {R M : Type 0} → (M → R) → Shows R M
derived shown = record { shown = shown; Told = ⊤; told = λ m. tt; apart = λ m n is. refl }

-- fields that the value determines, and then its fields
abbrev pub after_derived : {M : Type 0} → (M → Entries) → Fields M → Fields M
after_derived {M} shown f = through (λ (m : M). (m, m)) (in_order (derived shown) f)

-- a field that has this name in lines and this name in JSON, before other fields
abbrev pub field : {M N : Type 0} → List ℕ → List ℕ → Display M → Fields N → Fields (M × N)
field {M} name json d more = in_order (through (λ (m : M). (name, (json, m))) (named d)) more

-- a field that has this name in lines and in JSON, before other fields
abbrev pub same : {M N : Type 0} → List ℕ → Display M → Fields N → Fields (M × N)
same name d more = in_order (one name d) more

-- a field that may be missing, before other fields
abbrev pub field_if : {M N : Type 0} → List ℕ → Display M → Fields N → Fields (Option M × N)
field_if name d more = in_order (one_if name d) more

-- ---- the number of the type of a transaction or a receipt, as in EIP-2718, and sums of such types

abbrev pub type_entries : ℕ → Entries
type_entries tag = entry (codes "type") (codes "type") (content (type_byte tag))

-- the type without a number has no field in lines, and 0 in JSON
abbrev pub no_type_entries : Entries
no_type_entries = by_form nothing (type_entries 0)

-- the number of a type, and fields
abbrev pub of_type : {M : Type 0} → ℕ → Fields M → Fields M
of_type tag f = after_derived (λ m. type_entries tag) f

-- the number of the type that fields begin with
abbrev pub shown_type : Entries → ℕ
shown_type (entry name json (content (type_byte n))) = n
shown_type (both first more) = shown_type first
shown_type es = 0

-- values of two types that are shown in different ways
abbrev pub either : {M N : Type 0} (f : Fields M) (g : Fields N) → ((m : M) (n : N) → f.shown m ≡ g.shown n → ⊥) → Fields (M ⊎ N)
either f g differ = record { shown = on_either f g; Told = f.Told ⊎ g.Told; told = sum_map f.told g.told; apart = either_apart f g differ }

-- The fields of the types of a sum from the type with this number on. They begin with the number of the type, in which the fields of two types differ.
pub record Types (least : ℕ) (M : Type 0) : Type 1 where
  pub fields : Fields M
  pub above : (m : M) → least ≤ shown_type (fields.shown m)

-- the last type; `λ m. refl` proves that the fields begin with its number
abbrev pub last_type : {M : Type 0} (tag : ℕ) (f : Fields M) → ((m : M) → shown_type (f.shown m) ≡ tag) → Types tag M
last_type tag f is = record { fields = f; above = λ m. omega (arith, is m) }

module _ {M N : Type 0} (tag : ℕ) (f : Fields M) (is : (m : M) → shown_type (f.shown m) ≡ tag) (more : Types (suc tag) N) where
  -- a type before the types with greater numbers
  abbrev pub and_type : Types tag (M ⊎ N)
  and_type = record {
    fields = either f more.fields (λ m n same. omega (arith, ap shown_type same, is m, more.above n));
    above = elim [ inl m ↦ omega (arith, is m) | inr n ↦ omega (arith, more.above n) ];
  }

-- ---- types

-- how the values of a type, or their fields, are shown: what contracts see of a value, and what is shown of what they see
pub record Showing (R A : Type 0) : Type 1 where
  pub M : Type 0
  pub seen : A → M
  pub form : Shows R M

abbrev pub seen_as : {R A M : Type 0} → (A → M) → Shows R M → Showing R A
seen_as {R} {A} {M} seen d = record { M = M; seen = seen; form = d }

-- what is shown of a value, and what is told of it
abbrev pub shown_of : {R A : Type 0} → Showing R A → A → R
shown_of s x = s.form.shown (s.seen x)

abbrev pub told_of : {R A : Type 0} (s : Showing R A) → A → s.form.Told
told_of s x = s.form.told (s.seen x)
