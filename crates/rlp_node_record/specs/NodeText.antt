-- Node records as text, as in the section "Text Encoding" of EIP-778.
use Rattle.std.specs.Prelude.{ℕ, ◌≡◌, ◌≢◌, List, ◌++◌, codes}
use Rattle.base64.specs.{Engines.url_safe_no_pad, GeneralPurpose.encode_of}
use Rattle.rlp.specs.{DecoderError.DecoderError, Format.Encoding.{encoding, AreBytes}, Views.View.strict_view_of, Form.{Faults, custom, fault_of}}
use Rattle.rlp_node_record.specs.{NodeFields.node_fields, NodeLaws.node_record, declared.node_fields.NodeFields.NodeFields}

-- bytes in the URL-safe base64 of section 5 of RFC 4648, without padding
unfoldable pub base64_of : List ℕ → List ℕ
base64_of b = encode_of url_safe_no_pad b

-- the text of bytes: `enr:`, and then their base64
abbrev pub text_of : List ℕ → List ℕ
text_of b = codes "enr:" ++ base64_of b

-- the text of a record: the text of its encoding
abbrev pub node_text : NodeFields → List ℕ
node_text f = text_of (encoding (node_fields.item f))

-- the text begins with `enr:`
abbrev pub HasPrefix : List ℕ → Type 0
HasPrefix t = (rest : List ℕ) × (t ≡ codes "enr:" ++ rest)

-- no bytes have this base64
abbrev pub IsNotBase64 : List ℕ → Type 0
IsNotBase64 digits = (b : List ℕ) → AreBytes b → digits ≢ base64_of b

-- Why a text isn't the text of a record: it doesn't begin with `enr:`, the text after `enr:` isn't base64, or reading the bytes strictly fails.
pub data IsNodeTextFault (t : List ℕ) (e : DecoderError) : Type 0 where
  no_prefix : ¬ HasPrefix t → fault_of e ≡ custom (codes "text does not begin with enr:") → IsNodeTextFault t e
  not_base64 : (digits : List ℕ) → t ≡ codes "enr:" ++ digits → IsNotBase64 digits → fault_of e ≡ custom (codes "text is not base64") → IsNodeTextFault t e
  faulty_bytes : (b : List ℕ) → AreBytes b → t ≡ text_of b → Faults node_record.reading (strict_view_of b) e → IsNodeTextFault t e
