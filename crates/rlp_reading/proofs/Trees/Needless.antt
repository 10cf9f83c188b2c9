-- Strings with and without a needless header.
use Rattle.std.proofs.Common.{◌≡◌, ℕ, ◌+◌, ◌^◌, ◌<◌, ◌≤◌, List, ◌++◌, length, take, drop, refl, sym, ap, ◌∙◌, Ok, Result, append_assoc, take_at}
use Rattle.std.proofs.{Common.{drop_at, length-append, arith, true, false, lt-ltb}, lemmas.Bool.{cases_Bool, cond-false, cond-true, lt-leb}}
use Rattle.std.proofs.{lemmas.List.{nil_from_length}, lemmas.Grind.{common_steps}}
use Rattle.rlp_format.specs.Format.Encoding.{string, encoding, written_header, is_low_byte}
use Rattle.rlp_format.proofs.{Lemmas.Encodings.{IsLone, IsWritten}, Lemmas.Headers.{shape, written_header_short}}
use Rattle.rlp_reading.specs.{declared.error.DecoderError.DecoderError, declared.header.PayloadInfo.PayloadInfo}
use Rattle.rlp_reading.specs.Format.Framing.{lone, written, header, payload_info, IsString, HasHeader, IsFramedItem, framing, value, begins_as_list}
use Rattle.rlp_reading.specs.Format.TreeFaults.{is_needless}
use Rattle.rlp_reading.proofs.{Lemmas.Reading.read, Lemmas.Frames.{framing_is, value_is}}
use Rattle.rlp_reading.proofs.Lemmas.Views.{after_header, list_header_first}
use Rattle.rlp_format.specs.Format.Encoding.{IsBase}

-- bytes have a header for the string, and it stands after the header
pub record IsPlaced (b d : List ℕ) : Type 0 where
  pub h : ℕ
  pub has : header b ≡ Ok (payload_info h (length d))
  pub there : take (length d) (drop h b) ≡ d
  pub within : h + length d ≤ length b

lone_placed : (b d more : List ℕ) → IsLone d → b ≡ d ++ more → IsPlaced b d
lone_placed b d more l is = record {
  h = 0;
  has = ap header (is ∙ ap (λ s. s ++ more) l.is) ∙ read (lone l.byte more l.low) ∙ ap (λ s. Ok (payload_info 0 (length s))) (sym l.is);
  there = ap (take (length d)) is ∙ take_at d more (length d) refl;
  within = omega (arith, ap length is, length-append d more);
}

written_placed : (b d e more : List ℕ) → IsWritten 0x80 d e → b ≡ e ++ more → IsPlaced b d
written_placed b d e more w is =
    let whole : b ≡ written_header 0x80 (length d) ++ (d ++ more) = is ∙ ap (λ s. s ++ more) w.is
    ∙ append_assoc (written_header 0x80 (length d)) d more in
    record {
      h = length (written_header 0x80 (length d));
      has = ap header whole ∙ read (written 0x80 (length d) (d ++ more) w.is_base w.small);
      there = ap (λ s. take (length d) (drop (length (written_header 0x80 (length d))) s)) whole
          ∙ ap (take (length d)) (drop_at (written_header 0x80 (length d)) (d ++ more) (length (written_header 0x80 (length d))) refl)
          ∙ take_at d more (length d) refl;
      within = omega (arith, ap length whole, length-append (written_header 0x80 (length d)) (d ++ more), length-append d more);
    }

pub string_placed : (b d : List ℕ) → length b < 2 ^ 64 → IsString b d → IsPlaced b d
unfolding encoding
string_placed b d fits is = grind (arith, common_steps, lone_placed, written_placed)

pub Ok_same : {p q : PayloadInfo} → (let r : Result PayloadInfo DecoderError = Ok p in r) ≡ Ok q → p ≡ q
Ok_same e = cc

-- ---- strings with and without a needless header

-- a whole item with the header that was read
pub record IsWhole (b : List ℕ) (p : PayloadInfo) (c : List ℕ) : Type 0 where
  pub has : HasHeader b p.header_len p.value_len
  pub whole : p.header_len + p.value_len ≡ length b
  pub content : c ≡ take p.value_len (drop p.header_len b)

pub whole_item : {b : List ℕ} {p : PayloadInfo} {c : List ℕ} → IsFramedItem b → framing b ≡ Ok p → value b ≡ Ok c → IsWhole b p c
whole_item {b} {p} {c} framed is found = grind (arith, framing_is, value_is)

pub low_again : (c : List ℕ) → is_low_byte c ≡ true → encoding (string c) ≡ c
unfolding encoding
low_again c low = cond-true (is_low_byte c) c (written_header 0x80 (length c) ++ c) low

pub high_written : (c : List ℕ) → is_low_byte c ≡ false → encoding (string c) ≡ written_header 0x80 (length c) ++ c
unfolding encoding
high_written c high = cond-false (is_low_byte c) c (written_header 0x80 (length c) ++ c) high

string_base : (base n : ℕ) (rest : List ℕ) → IsBase base → n < 2 ^ 64 → false ≡ begins_as_list (written_header base n ++ rest) → base ≡ 0x80
string_base base n rest is_base small kind = grind (arith, list_header_first)

-- a header in front of a byte that is its own encoding is needless
needless_low : (c : List ℕ) → is_low_byte c ≡ true → is_needless (written_header 0x80 (length c) ++ c) ≡ true
needless_low c low = grind (arith, written_header_short)

-- a framed string without a needless header is the encoding of its content
string_form : {b : List ℕ} {h n : ℕ} (c : List ℕ) → HasHeader b h n → h + n ≡ length b → false ≡ begins_as_list b → c ≡ take n (drop h b)
    → is_needless b ≡ false → (b ≡ encoding (string c)) × (length c ≡ n)
string_form c (lone byte rest low) whole kind content plain =
    grind (arith, nil_from_length, lt-ltb, low_again)
string_form c (written base n rest is_base small) whole kind content plain =
    grind (arith, length-append, after_header, string_base, needless_low, cases_Bool, high_written)

pub string_whole : {b : List ℕ} {p : PayloadInfo} {c : List ℕ} → IsWhole b p c → false ≡ begins_as_list b → is_needless b ≡ false
    → (b ≡ encoding (string c)) × (length c ≡ p.value_len)
string_whole {c = c} w kind plain = string_form c w.has w.whole kind w.content plain

list_form : {b : List ℕ} {h n : ℕ} → HasHeader b h n → true ≡ begins_as_list b → 0 < h
list_form (lone byte rest low) kind = grind (arith, lt-leb)
list_form (written base n rest is_base small) kind = let s = shape base n small in omega (arith, ap length s.is)

-- the header of a list has a byte
pub list_header : {b : List ℕ} {p : PayloadInfo} {c : List ℕ} → IsWhole b p c → true ≡ begins_as_list b → 0 < p.header_len
list_header w kind = list_form w.has kind
