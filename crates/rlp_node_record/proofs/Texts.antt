-- The text of a record tells the record.
use Rattle.std.proofs.Common.{◌≡◌, ◌<◌, ◌^◌, ℕ, zero, suc, List, [], ◌∷◌, ◌++◌, ◌⊎◌, inl, inr, Ok, sym, ap, ◌∙◌, codes, length, refl, subst, true, arith}
use Rattle.base64.specs.{Engines.url_safe_no_pad, GeneralPurpose.{IsBytes, decode_of}}
use Rattle.base64.proofs.EngineFacts.{decode_of-encode_of}
use Rattle.rlp.specs.{DecoderError.DecoderError, DecoderError.TheVariants.OutOfMemory, Format.Encoding.{encoding, AreBytes}}
use Rattle.rlp.specs.{Views.View.strict_view_of, Form.{Faults, custom, fault_of}}
use Rattle.rlp_reading.proofs.{Corollaries.{not_both}, Lemmas.Reading.{bytes_held}}
use Rattle.rlp_node_record.specs.{NodeFields.node_fields, NodeRecord.IsNodeRecord, NodeLaws.node_record}
use Rattle.rlp_node_record.specs.NodeText.{HasPrefix, IsNodeTextFault, IsNotBase64, base64_of, faulty_bytes, no_prefix, node_text, not_base64}
use Rattle.rlp_node_record.specs.declared.node_fields.NodeFields.{NodeFields}
use Rattle.rlp_node_record.proofs.Keys.{records_tell}

-- bytes, by their places
each_byte : (b : List ℕ) → AreBytes b → IsBytes b
each_byte [] bytes i = omega arith
each_byte (x ∷ b) bytes zero = bytes 0 0 (omega arith)
each_byte (x ∷ b) bytes (suc i) = each_byte b (λ k d few. bytes (suc k) d (omega (arith, few))) i

-- the base64 of bytes is decoded to them
pub base64_decoded : (s b : List ℕ) → AreBytes b → s ≡ base64_of b → decode_of url_safe_no_pad s ≡ Ok b
unfolding base64_of
base64_decoded s b bytes same = ap (decode_of url_safe_no_pad) same ∙ decode_of-encode_of url_safe_no_pad b refl (each_byte b bytes)

-- bytes with the same base64 are the same
pub base64_told : (b c : List ℕ) → AreBytes b → AreBytes c → base64_of b ≡ base64_of c → b ≡ c
base64_told b c bytes other same =
    let both : Ok b ≡ Ok c = sym (base64_decoded (base64_of b) b bytes refl) ∙ base64_decoded (base64_of b) c other same in cc both

-- why no bytes are decoded from a text
pub text_fault : (t digits : List ℕ) (e : DecoderError) → t ≡ codes "enr:" ++ digits
    → (IsNotBase64 digits × (fault_of e ≡ custom (codes "text is not base64"))) ⊎ (e ≡ OutOfMemory) → IsNodeTextFault t e ⊎ ((e ≡ OutOfMemory) × HasPrefix t)
text_fault t digits e is (inl (not, text)) = inl (not_base64 digits is not text)
text_fault t digits e is (inr lacks) = inr (lacks, (digits, is))

-- why no record is read from the bytes of a text
pub bytes_fault : (t digits b c : List ℕ) (e : DecoderError) {M : Type 0} → IsBytes b → t ≡ codes "enr:" ++ digits → digits ≡ base64_of b → c ≡ b
    → Faults node_record.reading (strict_view_of c) e ⊎ ((e ≡ OutOfMemory) × M) → IsNodeTextFault t e ⊎ ((e ≡ OutOfMemory) × HasPrefix t)
bytes_fault t digits b c e bytes is same copy (inl bad) =
    let held : AreBytes b = bytes_held b (λ i. let fits = bytes i in omega arith) in
    inl (faulty_bytes c (subst AreBytes (sym copy) held) (is ∙ ap (λ d. codes "enr:" ++ d) (same ∙ ap base64_of (sym copy))) bad)
bytes_fault t digits b c e bytes is same copy (inr lacks) = inr (lacks.0, (digits, is))

-- texts with the same bytes after `enr:`
after_prefix : (b c : List ℕ) → codes "enr:" ++ b ≡ codes "enr:" ++ c → b ≡ c
after_prefix b c same = cc same

-- two records with the same text have the same fields
pub texts_told : (f g : NodeFields) → IsNodeRecord f → IsNodeRecord g → node_text f ≡ node_text g → node_fields.reading.seen f ≡ node_fields.reading.seen g
texts_told f g is other same = records_tell f g is other
    (base64_told (encoding (node_fields.item f)) (encoding (node_fields.item g)) is.bytes other.bytes (after_prefix _ _ same))

-- the text of a record has no fault
pub text_sound : (t : List ℕ) (r : NodeFields) (e : DecoderError) → IsNodeRecord r → t ≡ node_text r → ¬ IsNodeTextFault t e
text_sound t r e is same (no_prefix none text) = none (base64_of (encoding (node_fields.item r)), same)
text_sound t r e is same (not_base64 digits begins none text) =
    none (encoding (node_fields.item r)) is.bytes (after_prefix digits (base64_of (encoding (node_fields.item r))) (sym begins ∙ same))
text_sound t r e is same (faulty_bytes b bytes begins bad) =
    let whole : b ≡ encoding (node_fields.item r) =
    base64_told b (encoding (node_fields.item r)) bytes is.bytes (after_prefix (base64_of b) (base64_of (encoding (node_fields.item r))) (sym begins ∙ same)) in
    let few : length b < 2 ^ 64 = omega (arith, is.short, ap length whole) in
    not_both node_record.reading (strict_view_of b) r e ((node_record.reads_strictly.back true).back b r few is whole) bad

-- reading the text of a record fails only for lack of memory
pub text_fails : (t : List ℕ) (r : NodeFields) (e : DecoderError) {M : Type 0} → IsNodeRecord r → t ≡ node_text r
    → IsNodeTextFault t e ⊎ ((e ≡ OutOfMemory) × M) → e ≡ OutOfMemory
text_fails t r e is same (inl bad) = absurd (text_sound t r e is same bad)
text_fails t r e is same (inr lacks) = lacks.0
