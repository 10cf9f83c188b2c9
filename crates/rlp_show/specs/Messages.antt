-- What is shown of messages of `p2p` and `eth`.
use Rattle.std.proofs.Common.{inl, inr}
use Rattle.std.specs.Prelude.{ℕ, ◌∷◌, List, None, Option, Some, [], codes, refl}
use Rattle.rlp_messages.specs.Eth.Announcements.{block_range_update, new_block, new_block_hash, new_pooled_transaction_hashes}
use Rattle.rlp_messages.specs.{Eth.HashOrNumberLaws.hash_or_number, Eth.Receipts.receipt69, Eth.Requests.get_block_headers}
use Rattle.rlp_messages.specs.Eth.Status.{fork_id, status68, status69}
use Rattle.rlp_p2p.specs.{Disconnect.disconnect, Hello.{capability, further_fields, hello}}
use Rattle.rlp_show.specs.{Blocks.{block_display}, declared.sink.BytesKind.TheVariants.{Any, Word}, declared.sink.NumberKind.TheVariants.Decimal}
use Rattle.rlp_show.specs.Display.{a_bit, a_content, a_list, a_number, a_string, an_object, bytes_as, content_bytes, end, in_order, one, one_if, same, through}
use Rattle.rlp_show.specs.{DisplayLaws.back_apart, ItemDisplays.raw_item_display, Records.{log_display, status_fields}, Value.{Content, Display, Fields, bytes, number}}

-- the reason in a list, or the reason alone, which are shown alike; an empty list has none
abbrev pub reason_of : disconnect.reading.M → Option ℕ
reason_of (inl listed) = listed
reason_of (inr reason) = Some reason

unfoldable pub disconnect_display : Display disconnect.reading.M
disconnect_display = an_object (through reason_of (one_if (codes "reason") a_number))

abbrev pub capability_display : Display capability.reading.M
capability_display = an_object (same (codes "name") (bytes_as Word) (same (codes "version") a_number end))

-- the items of a list, if it has items
abbrev pub if_some : {A : Type 0} → List A → Option (List A)
if_some [] = None
if_some (x ∷ xs) = Some (x ∷ xs)

-- an item after the fields
abbrev pub further_item_display : Display further_fields.reading.M
further_item_display = through (λ m. m.0) raw_item_display

-- the items after the fields, if any follow
abbrev pub further_display : Fields (List further_fields.reading.M)
further_display = through if_some (one_if (codes "further") (a_list further_item_display))

-- the fields, and then the items after them
unfoldable pub hello_display : Display hello.reading.M
hello_display =
    an_object (same (codes "protocol_version") a_number (same (codes "client_id") a_string (same (codes "capabilities") (a_list capability_display) (
    same (codes "listen_port") a_number (same (codes "node_id") a_string further_display)))))

-- ---- what a client knows of the chain

abbrev pub fork_id_display : Display fork_id.reading.M
fork_id_display = an_object (same (codes "fork_hash") a_string (same (codes "fork_next") a_number end))

unfoldable pub status68_display : Display status68.reading.M
status68_display =
    an_object (same (codes "version") a_number (same (codes "network_id") a_number (same (codes "total_difficulty") a_number (
    same (codes "block_hash") a_string (same (codes "genesis_hash") a_string (same (codes "fork_id") fork_id_display end))))))

-- the blocks that a client has, which its status has too
unfoldable pub range_display : Fields block_range_update.reading.M
range_display = same (codes "earliest_block") a_number (same (codes "latest_block") a_number (same (codes "latest_block_hash") a_string end))

unfoldable pub status69_display : Display status69.reading.M
status69_display =
    an_object (same (codes "version") a_number (same (codes "network_id") a_number (same (codes "genesis_hash") a_string (
    same (codes "fork_id") fork_id_display range_display))))

unfoldable pub new_block_hash_display : Display new_block_hash.reading.M
new_block_hash_display = an_object (same (codes "hash") a_string (same (codes "number") a_number end))

unfoldable pub new_pooled_transaction_hashes_display : Display new_pooled_transaction_hashes.reading.M
new_pooled_transaction_hashes_display =
    an_object (same (codes "types") a_string (same (codes "sizes") (a_list a_number) (same (codes "hashes") (a_list a_string) end)))

unfoldable pub new_block_display : Display new_block.reading.M
new_block_display = an_object (same (codes "block") block_display (same (codes "total_difficulty") a_number end))

-- ---- requests and their answers

-- the number of a request, and the request or its answer
abbrev pub with_request_id_display : {M : Type 0} → Display M → Display (ℕ × M)
with_request_id_display d = an_object (same (codes "request_id") a_number (one (codes "content") d))

-- the hash or the number
abbrev pub hash_or_number_content : hash_or_number.reading.M → Content
hash_or_number_content (inl hash) = bytes Any hash
hash_or_number_content (inr n) = number Decimal n

-- the hash or the number in a content
abbrev hash_or_number_of : Content → hash_or_number.reading.M
hash_or_number_of (number kind n) = inr n
hash_or_number_of c = inl (content_bytes c)

-- a block by its hash or its number
abbrev pub hash_or_number_display : Display hash_or_number.reading.M
hash_or_number_display =
    a_content hash_or_number_content (back_apart hash_or_number_content hash_or_number_of (elim [ inl hash ↦ refl | inr n ↦ refl ]))

unfoldable pub get_block_headers_display : Display get_block_headers.reading.M
get_block_headers_display =
    an_object (same (codes "start_block") hash_or_number_display (same (codes "limit") a_number (same (codes "skip") a_number (
    same (codes "reverse") a_bit end))))

-- a receipt since `eth/69`
unfoldable pub receipt69_display : Display receipt69.reading.M
receipt69_display =
    an_object (same (codes "transaction_type") a_number (in_order status_fields (same (codes "cumulative_gas_used") a_number (
    same (codes "logs") (a_list log_display) end))))
