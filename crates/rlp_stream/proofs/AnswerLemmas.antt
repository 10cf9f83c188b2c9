-- What reading an item gives.
use Rattle.std.proofs.Common.{ℕ, ◌≡◌, List, ◌++◌, length, sym, ap, ◌∙◌, subst, Ok, Option, Some, None, IfSome}
use Rattle.std.specs.Io.KnownBytes.{Consumes}
use Rattle.rlp_reading.specs.Format.Framing.{IsFramedItem, frame}
use Rattle.rlp_reading.proofs.Lemmas.Frames.{longer, frame_front}
use Rattle.rlp_stream.proofs.PieceLemmas.{Consumes-appended}
use Rattle.rlp_stream.specs.Pieces.{Announces, AppendsRead}

-- an announced item that is whole
pub item_whole : (b : List ℕ) (total : ℕ) (after more : List ℕ) → Announces b total → after ≡ b ++ more → length after ≡ total → IsFramedItem after
item_whole b total after more announced parts whole = subst IsFramedItem (sym parts) (record {
  header_len = announced.header_len;
  value_len = announced.value_len;
  has_header = longer more announced.has_header;
  whole = announced.whole ∙ sym whole ∙ ap length parts;
})

-- the first item of what was left is the one that was read: first the header b, and then the value
pub frame-read : (in0 in1 in2 : Option (List ℕ)) (total : ℕ) (b slice after : List ℕ) → Consumes in0 in1 b → AppendsRead in1 in2 b after → slice ≡ b
    → Announces slice total → length after ≡ total → IfSome in0 (λ left. frame left ≡ Ok after)
frame-read in0 in1 in2 total b slice after read more same announced whole =
    by_item in0 in2 after (Consumes-appended in0 in1 in2 b after read more)
    (item_whole b total after more.more (subst (λ l. Announces l total) same announced) more.bytes whole)
  where
    by_item : (in0 in2 : Option (List ℕ)) (b : List ℕ) → Consumes in0 in2 b → IsFramedItem b → IfSome in0 (λ left. frame left ≡ Ok b)
    by_item None in2 b read item = tt
    by_item (Some left) None b read item = absurd read
    by_item (Some left) (Some more) b read item = ap frame read ∙ frame_front b more item
