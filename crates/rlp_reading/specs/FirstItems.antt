-- Types that are read from the whole first item of a view.
use Rattle.std.specs.Prelude.{ℕ, ⊤, List, Bool}
use Rattle.rlp_format.specs.Format.Encoding.{Item}
use Rattle.rlp_reading.specs.{Values.RawItem.view_frame, Form.{Answer, Fault, Form, go_on, here, seen_fault}}

-- A type that is read from the bytes of the first item of a view, and so from the same bytes whether the view is strict or lenient: which values fit, the item of a
-- value, what contracts see of a value, the item of a value, by what contracts see of the value, what the bytes of an item give, and whether reading allocates.
abbrev pub item_type : {A M : Type 0} → (A → Type 0) → (A → Item) → (A → M) → (M → Item) → (List ℕ → Answer M Fault) → Bool → Form A
item_type {M = M} Fits item seen written read takes_memory = record {
  Fits = Fits;
  item = item;
  reading = record {
    M = M;
    seen = seen;
    item = written;
    read = λ v. go_on (here (seen_fault (view_frame v))) read;
    takes_memory = takes_memory;
    Allocates = λ v. ⊤;
  };
}
