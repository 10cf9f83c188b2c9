-- What is shown of the values of the keys of node records.
use Rattle.std.specs.{Prelude.{ℕ, ◌==◌, ◌&&◌, ◌||◌, ◌⊎◌, nat_lt, if◌then◌else◌, Bool, false, List, codes, length, Result, Ok, Err}, Int.Digits.number_from_digits, Str.bytes_eq}
use Rattle.std.proofs.Common.{inl, inr}
use Rattle.rlp.specs.{DecoderError.DecoderError, Form.begins_with_zero, Format.Encoding.Item, Format.Framing.read_string, Values.RawItem.raw_item_of}
use Rattle.rlp_show.specs.{Value.{Content, Value, content, bytes, number}, Items.{deepest_shown, shown_within}}
use Rattle.rlp_show.specs.declared.{sink.NumberKind.TheVariants.Decimal, sink.BytesKind.TheVariants.Any, sink.BytesKind.TheVariants.Ip, sink.BytesKind.TheVariants.Word}

-- ---- by the keys that EIP-778 defines

-- a port, which is a number of at most two bytes, or other bytes
abbrev pub port_content : List ℕ → Content
port_content d = if nat_lt 2 (length d) || begins_with_zero d then bytes Any d else number Decimal (number_from_digits 256 d)

-- whether the value of a key is a port
abbrev pub is_port_key : List ℕ → Bool
is_port_key key = (bytes_eq key (codes "tcp") || bytes_eq key (codes "udp")) || (bytes_eq key (codes "tcp6") || bytes_eq key (codes "udp6"))

-- whether the value of a key is an IP address
abbrev pub is_ip : List ℕ → List ℕ → Bool
is_ip key d = (bytes_eq key (codes "ip") && (length d == 4)) || (bytes_eq key (codes "ip6") && (length d == 16))

-- the string at a key: the name of a scheme, an address, a port, or any bytes
abbrev pub string_content : List ℕ → List ℕ → Content
string_content key d =
    if bytes_eq key (codes "id") then bytes Word d
    else if is_ip key d then bytes Ip d
    else if is_port_key key then port_content d
    else bytes Any d

-- the value of a key, which is kept as these bytes, by the string that they begin with
abbrev pub key_value_by : List ℕ → List ℕ → Result (List ℕ) DecoderError → Value
key_value_by key b (Ok d) = content (string_content key d)
key_value_by key b (Err e) = shown_within deepest_shown false b

abbrev pub key_value : List ℕ → List ℕ → Value
key_value key b = key_value_by key b (read_string b)

-- What is told of the value of a key: what is shown of a string, or the item if it is a list.
abbrev pub key_told_by : List ℕ → List ℕ → Result (List ℕ) DecoderError → Content ⊎ Item
key_told_by key b (Ok d) = inl (string_content key d)
key_told_by key b (Err e) = inr (raw_item_of b)
