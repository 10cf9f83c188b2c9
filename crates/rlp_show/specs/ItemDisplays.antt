-- How items of any kind, standalone nodes and node records are shown.
use Rattle.std.specs.Prelude.{ℕ, ◌⊎◌, List, codes, false}
use Rattle.rlp.specs.{Format.Encoding.Item, Format.Framing.read_string, Values.RawItem.raw_item_of}
use Rattle.rlp_node_record.specs.NodeFields.{node_fields, pair_fields}
use Rattle.rlp_trie.specs.TrieNodeLaws.{trie_node}
use Rattle.rlp_show.specs.{Display.{a_list, a_number, a_string, an_object, bytes_as, one, same, through}, Value.{Content, Display}, declared.sink.BytesKind.TheVariants.Word}
use Rattle.rlp_show.specs.{ItemLaws.{key_apart, node_apart, raw_apart}, Items.{deepest_shown, node_told, shown_within, whole_node}, NodeRecords.{key_told_by, key_value}}

-- items that are kept as the bytes of their encodings
abbrev pub raw_item_display : Display (List ℕ)
raw_item_display = record { shown = shown_within deepest_shown false; Told = Item; told = raw_item_of; apart = raw_apart }

-- nodes of the trie that stand alone
unfoldable pub node_display : Display trie_node.reading.M
node_display = record { shown = whole_node; Told = Item; told = node_told; apart = node_apart }

-- ---- node records

-- the value of a key of a node record; how the value is shown depends on the key
abbrev pub key_value_display : Display (List ℕ × List ℕ)
key_value_display = record {
  shown = λ p. key_value p.0 p.1;
  Told = Content ⊎ Item;
  told = λ p. key_told_by p.0 p.1 (read_string p.1);
  apart = key_apart;
}

-- a key of a node record, and its value
abbrev pub node_pair_display : Display pair_fields.reading.M
node_pair_display = an_object (through (λ p. (p.0, (p.0, p.1.0))) (same (codes "key") (bytes_as Word) (one (codes "value") key_value_display)))

-- the fields of a node record
abbrev pub node_fields_display : Display node_fields.reading.M
node_fields_display = an_object (same (codes "signature") a_string (same (codes "sequence") a_number (one (codes "pairs") (a_list node_pair_display))))
