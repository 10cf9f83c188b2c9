-- Values of two structs that differ in the number of items of their lists.
use Rattle.std.proofs.Common.{ℕ, ◌==◌, ◌||◌, ◌⊎◌, Bool, Err, Ok, Result, false, if◌then◌else◌, inl, inr}
use Rattle.std.specs.Prelude.{⊤}
use Rattle.rlp.specs.{DecoderError.{DecoderError}, Values.Sums.{OnSum, sum_item}, Views.View.{View, item_count}}
use Rattle.rlp_reading.specs.{Form.{Answer, Fault, FieldsForm, Form, map_answer, struct_of}, Sums.sum_map}

-- whether this is the number of items
abbrev pub is_count : ℕ → Result ℕ DecoderError → Bool
is_count n (Ok m) = m == n
is_count n (Err e) = false

-- What `counted` gives for a view that is a list of n items, and what `other` gives for any other view.
abbrev pub read_by_count : {M N : Type 0} → ℕ → (View → Answer M Fault) → (View → Answer N Fault) → View → Answer (M ⊎ N) Fault
read_by_count n counted other v = if is_count n (item_count v) then map_answer inl (counted v) else map_answer inr (other v)

-- A value of a first struct or of a second, each written as the list of its fields. A list of as many items as the first struct has fields is read as the first
-- struct.
abbrev pub by_count : {A B : Type 0} → FieldsForm A → FieldsForm B → Form (A ⊎ B)
by_count f g = record {
  Fits = OnSum f.Fits g.Fits;
  item = sum_item (struct_of f).item (struct_of g).item;
  reading = record {
    M = f.reading.M ⊎ g.reading.M;
    seen = sum_map f.reading.seen g.reading.seen;
    item = sum_item (struct_of f).reading.item (struct_of g).reading.item;
    read = read_by_count f.reading.width (struct_of f).reading.read (struct_of g).reading.read;
    takes_memory = f.reading.takes_memory || g.reading.takes_memory;
    Allocates = λ v. ⊤;
  };
}
