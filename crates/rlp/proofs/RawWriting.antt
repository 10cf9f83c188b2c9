-- What is written for a raw item.
use Rattle.std.proofs.Common.{◌≡◌, ◌<◌, ◌^◌, ℕ, false, List, length, sym, ap, ◌∙◌, arith}
use Rattle.rlp_format.specs.Format.Encoding.{Item, is_list, string, encoding}
use Rattle.rlp_reading.specs.{Format.Framing.begins_as_list, Values.RawItem.{IsRawItem, raw_item_of}}
use Rattle.rlp_write.specs.Streams.Stream.{State, put, put_item}
use Rattle.rlp_reading.proofs.RawLaws.{list_by, raw_encoding, raw_is_list, raw_list, raw_string_read}
use Rattle.rlp_write.proofs.Streams.Growth.{grows_same}

put_string : (x : Item) (s : State) → is_list x ≡ false → put (encoding x) s ≡ put_item x s
put_string x s e = grind arith

-- what is written for any other raw item
pub raw_string_put : (b d : List ℕ) (s : State) → length b < 2 ^ 64 → IsRawItem b → begins_as_list b ≡ false → b ≡ encoding (string d)
    → put (encoding (string d)) s ≡ put_item (raw_item_of b) s
raw_string_put b d s fits is begins whole =
    let same : encoding (raw_item_of b) ≡ b = raw_encoding b fits is in
    let kind : is_list (raw_item_of b) ≡ false = sym (list_by (raw_item_of b) b fits (sym same)) ∙ begins in
    ap (λ c. put c s) (sym whole ∙ sym same) ∙ put_string (raw_item_of b) s kind

pub ruleset raw_items = (raw_is_list, raw_list, raw_string_read, raw_string_put, grows_same)
