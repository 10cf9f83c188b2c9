-- The laws of what reading an item gives.
use Rattle.std.proofs.Common.{ℕ, ◌≡◌, ◌≢◌, ◌<◌, ◌≤◌, ◌+◌, ◌↔◌, ◌^◌, List, [], ◌++◌, length, refl, ap, ◌∙◌, arith, length-append, true, false, Ok, Err, IsOkAnd}
use Rattle.std.proofs.lemmas.Bool.Decides.{nat_tests}
use Rattle.rlp_format.specs.Format.Encoding.{Item, encoding, BeginsWith}
use Rattle.rlp_reading.specs.Format.Framing.{IsFramedItem, header, framing, framing_in, total_len, payload_info}
use Rattle.rlp_reading.specs.declared.error.DecoderError.{DecoderError, TheVariants.RlpIsTooShort}
use Rattle.rlp_reading.proofs.{Lemmas.Reading.read, Lemmas.Frames.{longer, encoding_item}}
use Rattle.rlp_stream.specs.{declared.fault.ReadFault.TheVariants.{TooLong, Truncated, Faulty}, Item.item_answer}

header_nil : header [] ≡ Err RlpIsTooShort
unfolding header
header_nil = refl

framing_by : (b : List ℕ) → framing b ≡ framing_in b (header b)
unfolding framing
framing_by b = refl

pub too_long-means : (most : ℕ) (left : List ℕ) → (item_answer most left ≡ Err TooLong) ↔ IsOkAnd (header left) (λ p. most < total_len p)
too_long-means most left = grind (arith, nat_tests, header_nil)

pub truncated-means : (most : ℕ) (left : List ℕ) → item_answer most left ≡ Err Truncated → framing left ≡ Err RlpIsTooShort
truncated-means most left is = grind (arith, nat_tests, framing_by)

pub faulty-means : (most : ℕ) (left : List ℕ) (e : DecoderError) → e ≢ RlpIsTooShort → (item_answer most left ≡ Err (Faulty e)) ↔ (framing left ≡ Err e)
faulty-means most left e other = grind (arith, nat_tests, header_nil, framing_by)

pub never_short : (most : ℕ) (left : List ℕ) → item_answer most left ≢ Err (Faulty RlpIsTooShort)
never_short most left is = grind (arith, nat_tests)

pub none-means : (most : ℕ) (left : List ℕ) → (item_answer most left ≡ Ok false) ↔ (left ≡ [])
none-means most left = grind (arith, nat_tests)

item-front : (most h n : ℕ) (left : List ℕ) → header left ≡ Ok (payload_info h n) → h + n ≤ most → h + n ≤ length left → item_answer most left ≡ Ok true
item-front most h n left is fits within = grind (arith, nat_tests, header_nil)

pub item-read : (most : ℕ) (f more : List ℕ) → IsFramedItem f → length f ≤ most → item_answer most (f ++ more) ≡ Ok true
item-read most f more is fits =
    item-front most is.header_len is.value_len (f ++ more) (read (longer more is.has_header)) (omega (arith, is.whole)) (omega (arith, is.whole, length-append f more))

pub encoding-read : (most : ℕ) (left : List ℕ) (x : Item) → BeginsWith left (encoding x) → length (encoding x) ≤ most → length (encoding x) < 2 ^ 64
    → item_answer most left ≡ Ok true
encoding-read most left x begins fits sized =
    ap (item_answer most) begins.1 ∙ item-read most (encoding x) begins.0 (encoding_item x sized) fits

pub ruleset items_read = (none-means, item-read, encoding-read)

pub ruleset faults_mean = (too_long-means, truncated-means, faulty-means, never_short)
