-- The JSON of a value, with the names of Ethereum's execution API and without spaces.
use Rattle.std.specs.{Prelude.{ℕ, Bool, true, false, List, [], ◌∷◌, ◌++◌, ◌==◌, codes, encode_utf8, if◌then◌else◌}, Char.to_ascii_uppercase}
use Rattle.rlp_show.specs.{Value.{Steps, after, Content, Value, number, type_byte, bytes, text, empty_list}, Lines.{bytes_text, hex_text, ip_text, number_text, word_text}}
use Rattle.rlp_show.specs.{declared.{sink.NumberKind.NumberKind, sink.NumberKind.TheVariants.Place, sink.BytesKind.BytesKind}, declared.sink.BytesKind.TheVariants.{Ip, Null, Word}}
use Rattle.rlp_show.specs.declared.sink.{Bracket.Bracket, Bracket.TheVariants.CloseBrace, Bracket.TheVariants.CloseSquare, Bracket.TheVariants.OpenBrace, Bracket.TheVariants.OpenSquare}

-- the text so far, and whether a value may come next without a comma before it
pub record Json : Type 0 where
  pub text : List ℕ
  pub is_fresh : Bool

-- the comma before a member or an item, if one is needed
abbrev pub comma : Bool → List ℕ
comma true = []
comma false = codes ","

-- a text in quotes
abbrev pub quoted : List ℕ → List ℕ
quoted t = codes "\"" ++ t ++ codes "\""

-- a number of a kind: in hexadecimal, as in the execution API, unless it is a place
abbrev pub number_json : NumberKind → ℕ → List ℕ
number_json Place n = number_text n
number_json _ n = quoted (hex_text n)

-- bytes of a kind, without quotes
abbrev pub bytes_unquoted : BytesKind → List ℕ → List ℕ
bytes_unquoted Word b = word_text b
bytes_unquoted Ip b = ip_text b
bytes_unquoted _ b = bytes_text b

-- bytes of a kind: in quotes, or `null`
abbrev pub bytes_json : BytesKind → List ℕ → List ℕ
bytes_json Null b = codes "null"
bytes_json kind b = quoted (bytes_unquoted kind b)

abbrev pub content_json : Content → List ℕ
content_json (number kind n) = number_json kind n
content_json (type_byte n) = quoted (hex_text n)
content_json (bytes kind b) = bytes_json kind b
content_json (text t) = quoted t
content_json empty_list = codes "[]"

-- a text after a comma, if one is needed
abbrev pub put_text : List ℕ → Bool → Json → Json
put_text t fresh s = record { text = s.text ++ comma s.is_fresh ++ t; is_fresh = fresh }

-- a byte of a name, which may follow an underscore
abbrev pub letter_text : Bool → ℕ → List ℕ
letter_text after byte = if byte == 95 then [] else encode_utf8 (if after then to_ascii_uppercase byte else byte)

-- a name without its underscores, and with a capital letter after each
abbrev pub camel : Bool → List ℕ → List ℕ
camel after [] = []
camel after (byte ∷ name) = letter_text after byte ++ camel (byte == 95) name

-- the bracket that begins an object or a list, and the bracket that ends it
abbrev pub put_bracket : Bracket → Json → Json
put_bracket OpenBrace s = put_text (codes "{") true s
put_bracket OpenSquare s = put_text (codes "[") true s
put_bracket CloseBrace s = record { text = s.text ++ codes "}"; is_fresh = false }
put_bracket CloseSquare s = record { text = s.text ++ codes "]"; is_fresh = false }

-- how JSON takes a value
abbrev pub json_steps : Steps Json
json_steps = record {
  is_json = true;
  key = λ json s. put_text (quoted (camel false json) ++ codes ":") true s;
  put = λ name c s. put_text (content_json c) false s;
  bracket = put_bracket;
}

-- the JSON of a value
abbrev pub json_of : Value → List ℕ
json_of v = (after json_steps [] v (record { text = []; is_fresh = true })).text
