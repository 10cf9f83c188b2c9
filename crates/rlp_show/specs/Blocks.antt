-- What is shown of headers of blocks, and of blocks.
use Rattle.std.specs.Prelude.{ℕ, List, codes, length, map}
use Rattle.rlp_records.specs.Keccak.{keccak256}
use Rattle.rlp_headers.specs.{Forks.{amsterdam_fields, cancun_fields, london_fields, prague_fields, shanghai_fields}, Header.header, declared.header.Header.{Header}}
use Rattle.rlp_blocks.specs.Block.{block, body}
use Rattle.rlp_show.specs.Display.{a_list, a_number, a_string, after_derived, an_object, bytes_as, derived, end, field, if_there, in_forms, in_order, one, one_if, same, through}
use Rattle.rlp_show.specs.{Records.{hash_entries, withdrawal_display, written}, Transactions.any_transaction_display, Value.{Display, Fields}}
use Rattle.rlp_show.specs.declared.sink.BytesKind.TheVariants.{Sparse}

-- what is shown of the fields that a fork added
abbrev pub amsterdam_display : Fields amsterdam_fields.reading.M
amsterdam_display = same (codes "block_access_list_hash") a_string (one_if (codes "slot_number") a_number)

abbrev pub prague_display : Fields prague_fields.reading.M
prague_display = same (codes "requests_hash") a_string (if_there amsterdam_display)

abbrev pub cancun_display : Fields cancun_fields.reading.M
cancun_display =
    same (codes "blob_gas_used") a_number (same (codes "excess_blob_gas") a_number (same (codes "parent_beacon_block_root") a_string (
    if_there prague_display)))

abbrev pub shanghai_display : Fields shanghai_fields.reading.M
shanghai_display = same (codes "withdrawals_root") a_string (if_there cancun_display)

abbrev pub london_display : Fields london_fields.reading.M
london_display = same (codes "base_fee_per_gas") a_number (if_there shanghai_display)

-- the fields of a header
abbrev pub header_fields_display : Fields header.reading.M
header_fields_display =
    same (codes "parent_hash") a_string (field (codes "ommers_hash") (codes "sha3Uncles") a_string (field (codes "beneficiary") (codes "miner") a_string (
    same (codes "state_root") a_string (same (codes "transactions_root") a_string (same (codes "receipts_root") a_string (
    same (codes "logs_bloom") (bytes_as Sparse) (same (codes "difficulty") a_number (same (codes "number") a_number (same (codes "gas_limit") a_number (
    same (codes "gas_used") a_number (same (codes "timestamp") a_number (same (codes "extra_data") a_string (same (codes "mix_hash") a_string (
    same (codes "nonce") a_string (if_there london_display)))))))))))))))

-- the hash of a header
abbrev pub header_hash : header.reading.M → List ℕ
header_hash h = keccak256 (written header.reading h)

unfoldable pub seen_hash : Header → List ℕ
seen_hash h = header_hash (header.reading.seen h)

-- the hash of a header, and its fields
abbrev pub hashed_header_display : Fields header.reading.M
hashed_header_display = after_derived (λ h. hash_entries (header_hash h)) header_fields_display

unfoldable pub header_display : Display header.reading.M
header_display = an_object hashed_header_display

-- the fields of a body, which a block has too
unfoldable pub body_fields_display : Fields body.reading.M
body_fields_display =
    same (codes "transactions") (a_list any_transaction_display) (same (codes "ommers") (a_list header_display) (
    one_if (codes "withdrawals") (a_list withdrawal_display)))

-- the number of bytes of a block
unfoldable pub block_size : block.reading.M → ℕ
block_size b = length (written block.reading b)

-- what a block has only in JSON, as in the execution API: the hashes of the ommers, and the number of bytes of the block
abbrev pub more_of_block : Fields block.reading.M
more_of_block = derived (λ b. (same (codes "uncles") (a_list a_string) (one (codes "size") a_number)).shown (map header_hash b.1.1.0, block_size b))

-- In JSON the fields of the header are fields of the block.
unfoldable pub block_display : Display block.reading.M
block_display =
    an_object (through (λ b. ((b.0, b.0), (b.1, (b, b)))) (in_order (in_forms (one (codes "header") header_display) hashed_header_display) (
    in_order body_fields_display (in_forms end more_of_block))))
