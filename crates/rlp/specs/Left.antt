-- What a reader of the items of a list has left.
use Rattle.std.specs.Prelude.{ℕ, ◌≡◌, List, [], ◌∷◌, length, Result, Ok, Err}
use Rattle.rlp_reading.specs.{declared.error.DecoderError.DecoderError, Format.Framing.fault, Views.View.View, Form.{FieldsReading, fault_of, take_all}}

-- The views of the items that are left, in order, and the bytes that follow the items in the list. These bytes are the same before and after an item is taken.
pub record ItemsLeft : Type 0 where
  pub views : List View
  pub after : List ℕ

-- The views of the items that are left of a list, in order, and the number of all items of the list.
pub record ItemsCounted : Type 0 where
  pub views : List View
  pub count : ℕ

-- the first of the views, or the error if there is none
abbrev pub first_view : DecoderError → List View → Result View DecoderError
first_view past [] = Err past
first_view past (v ∷ vs) = Ok v

-- the views after the first one
abbrev pub after_first : List View → List View
after_first [] = []
after_first (v ∷ vs) = vs

-- the error past the last item: the fault of the bytes that follow the items
abbrev pub past_fault : ItemsLeft → DecoderError
past_fault left = fault left.after

-- the next item, or the error past the last item if no item is left
abbrev pub next_item : ItemsLeft → Result View DecoderError
next_item left = first_view (past_fault left) left.views

-- what is left after the next item
abbrev pub after_next : ItemsLeft → ItemsLeft
after_next left = record left { views = after_first left.views }

-- The views don't give the fields, or views are left after the fields: the error says why, and `left` views come after the view that has the fault.
pub record AreFaulty {P : Type 0} (r : FieldsReading P) (vs : List View) (left : ℕ) (e : DecoderError) : Type 0 where
  pub after : List View
  pub fault : (take_all r.read vs).result ≡ Err (after, fault_of e)
  pub many : length after ≡ left
