-- What is shown of a value, how a sink takes it, and what it is to show the values of a type.
use Rattle.std.specs.{Prelude.{ℕ, List, [], ◌∷◌, Option, Some, None, ◌+◌, ◌≡◌, ◌⊎◌, Bool, if◌then◌else◌, ◌++◌, codes, decimal}, Int.Digits.number_from_digits}
use Rattle.std.proofs.Common.{inl, inr}
use Rattle.rlp_show.specs.declared.sink.{Bracket.Bracket, Bracket.TheVariants.CloseBrace, Bracket.TheVariants.CloseSquare, Bracket.TheVariants.OpenBrace, Bracket.TheVariants.OpenSquare}
use Rattle.rlp_show.specs.declared.{sink.NumberKind.NumberKind, sink.BytesKind.BytesKind, sink.Shown.Shown}
use Rattle.rlp_show.specs.declared.sink.Shown.TheVariants.{Bytes, EmptyList, Number, Text, TypeByte}

-- what is shown as one text
pub data Content : Type 0 where
  -- a number of a kind
  number : NumberKind → ℕ → Content
  -- the number of a type of EIP-2718
  type_byte : ℕ → Content
  -- bytes of a kind
  bytes : BytesKind → List ℕ → Content
  -- letters, digits and punctuation that need no escape in JSON
  text : List ℕ → Content
  empty_list : Content

-- the content that is shown as one text
abbrev pub content_of : Shown → Content
content_of (Number kind n) = number kind (number_from_digits 256 n.bytes)
content_of (TypeByte n) = type_byte n
content_of (Bytes kind b) = bytes kind b.now
content_of (Text t) = text t.now
content_of EmptyList = empty_list

-- A value is one content, an object with fields, or a list of values. A field has a name in lines and a name in JSON. `by_form` has the fields that are shown in
-- lines and the fields that are shown in JSON.
mutual
  pub data Value : Type 0 where
    content : Content → Value
    object : Entries → Value
    array : Values → Value

  pub data Entries : Type 0 where
    nothing : Entries
    both : Entries → Entries → Entries
    entry : List ℕ → List ℕ → Value → Entries
    by_form : Entries → Entries → Entries

  pub data Values : Type 0 where
    no_values : Values
    value_and : Value → Values → Values

-- the values of a list
abbrev pub values_of : {A : Type 0} → (A → Value) → List A → Values
values_of shown [] = no_values
values_of shown (x ∷ xs) = value_and (shown x) (values_of shown xs)

-- the fields of a part, if the part is present
abbrev pub entries_if : {A : Type 0} → (A → Entries) → Option A → Entries
entries_if shown None = nothing
entries_if shown (Some x) = both (shown x) nothing

-- the name of a field in the value of a name; a whole value has no name
abbrev pub inside : List ℕ → List ℕ → List ℕ
inside [] own = own
inside (c ∷ name) own = (c ∷ name) ++ codes "." ++ own

-- the name of item i of a list
abbrev pub item_name : List ℕ → ℕ → List ℕ
item_name name i = name ++ codes "[" ++ decimal i ++ codes "]"

-- What a sink does, by what it holds. A key is the JSON name of the field whose value comes next. A content comes with its whole name.
pub record Steps (S : Type 0) : Type 0 where
  pub is_json : Bool
  pub key : List ℕ → S → S
  pub put : List ℕ → Content → S → S
  pub bracket : Bracket → S → S

-- what a sink holds after it took a value with this name, fields of a value with this name, or the items from place i on of a list with this name
abbrev mutual
  pub after : {S : Type 0} → Steps S → List ℕ → Value → S → S
  after st name (content c) s = st.put name c s
  after st name (object es) s = st.bracket CloseBrace (after_fields st name es (st.bracket OpenBrace s))
  after st name (array no_values) s = st.put name empty_list s
  after st name (array (value_and v vs)) s = st.bracket CloseSquare (after_items st name 0 (value_and v vs) (st.bracket OpenSquare s))

  pub after_fields : {S : Type 0} → Steps S → List ℕ → Entries → S → S
  after_fields st name nothing s = s
  after_fields st name (both a b) s = after_fields st name b (after_fields st name a s)
  after_fields st name (entry own json v) s = after st (inside name own) v (st.key json s)
  after_fields st name (by_form a b) s = if st.is_json then after_fields st name b s else after_fields st name a s

  pub after_items : {S : Type 0} → Steps S → List ℕ → ℕ → Values → S → S
  after_items st name i no_values s = s
  after_items st name i (value_and v vs) s = after_items st name (i + 1) vs (after st (item_name name i) v s)

-- ---- how values are shown, by what contracts see of them

-- What is shown of a value that contracts see as M, and what is told of the value.
pub record Shows (R M : Type 0) : Type 1 where
  pub shown : M → R
  pub Told : Type 0
  pub told : M → Told
  pub apart : (m n : M) → shown m ≡ shown n → told m ≡ told n

-- how values are shown
abbrev pub Display : Type 0 → Type 1
Display M = Shows Value M

-- how the fields of values that are objects are shown
abbrev pub Fields : Type 0 → Type 1
Fields M = Shows Entries M

module _ {M N : Type 0} (f : Fields M) (g : Fields N) where
  -- what is told of the two parts
  abbrev pub told_both : M × N → f.Told × g.Told
  told_both m = (f.told m.0, g.told m.1)

  -- the fields of a value of one of two types
  abbrev pub on_either : M ⊎ N → Entries
  on_either (inl m) = f.shown m
  on_either (inr n) = g.shown n
