-- The keys of a node record, and what a key gives.
use Rattle.std.specs.Prelude.{ℕ, ◌≡◌, ◌≢◌, ◌⊎◌, ◌||◌, ⊤, if◌then◌else◌, Bool, false, IsSome, IsTrue, List, [], ◌∷◌, length, codes, Option, Some, None, Result, Ok, Err}
use Rattle.std.specs.{Str.bytes_eq, Vec.vec_items}
use Rattle.rlp.specs.{DecoderError.DecoderError, DecoderError.TheVariants.OutOfMemory, Format.Encoding.{Item, string, encoding}}
use Rattle.rlp.specs.{Values.Value.{FitsBytes, number_item}, Views.View.strict_view_of, Form.{Faults, Gives, Reading}}
use Rattle.rlp_node_record.specs.{declared.node_fields.NodeFields.NodeFields, declared.node_fields.NodePair.NodePair}

-- the value of a key among pairs, as the bytes of its item: the value of the first pair with the key, if a pair has it
abbrev pub value_among : List ℕ → List NodePair → Option (List ℕ)
value_among key [] = None
value_among key (pair ∷ pairs) = if bytes_eq (vec_items pair.key) key then Some pair.value else value_among key pairs

-- the value of a key, which a record has at most once
abbrev pub value_of : List ℕ → NodeFields → Option (List ℕ)
value_of key f = value_among key (vec_items f.pairs)

-- `id` is one of the keys
unfoldable pub HasId : List NodePair → Type 0
HasId pairs = IsSome (value_among (codes "id") pairs)

-- whether the key is one of these
abbrev pub has_key : List ℕ → List (List ℕ) → Bool
has_key key [] = false
has_key key (first ∷ keys) = bytes_eq first key || has_key key keys

-- What a key gives as a value of any type: nothing if the record doesn't have the key, and else the value or the fault that a strict view of the key's value gives.
abbrev pub ReadsKey : {A : Type 0} → Reading A → Option (List ℕ) → Option (Result A DecoderError) → Type 0
ReadsKey r None None = ⊤
ReadsKey r None (Some answer) = ⊥
ReadsKey r (Some b) None = ⊥
ReadsKey r (Some b) (Some (Ok x)) = Gives r (strict_view_of b) x
ReadsKey r (Some b) (Some (Err e)) = Faults r (strict_view_of b) e ⊎ ((e ≡ OutOfMemory) × IsTrue r.takes_memory)

-- What a known key gives: the value that fits its type and whose encoding is the key's value. It gives nothing if there is no such value: the record doesn't have
-- the key, or the key's value has another form.
abbrev pub GivesKnown : {A : Type 0} → (A → Type 0) → (A → Item) → Option (List ℕ) → Option A → Type 0
GivesKnown Fits item held (Some x) = Fits x × (held ≡ Some (encoding (item x)))
GivesKnown {A} Fits item held None = (x : A) → Fits x → held ≢ Some (encoding (item x))

-- the bytes of the key's value, if it is a string
abbrev pub GivesString : List ℕ → NodeFields → Option (List ℕ) → Type 0
GivesString key f answer = GivesKnown (λ s. ⊤) string (value_of key f) answer

-- the bytes of the key's value, if it is a string of n bytes
abbrev pub GivesArray : ℕ → List ℕ → NodeFields → Option (List ℕ) → Type 0
GivesArray n key f answer = GivesKnown (λ s. length s ≡ n) string (value_of key f) answer

-- the number of the key's value, if it is a number of at most two bytes
abbrev pub GivesPort : List ℕ → NodeFields → Option ℕ → Type 0
GivesPort key f answer = GivesKnown (FitsBytes 2) number_item (value_of key f) answer
