use Rattle.std.proofs.Common.{sym}
use Rattle.rlp_records.proofs.Scanning.{front_counted}
use Rattle.rlp_records.proofs.envelope_items.items_in_string.Goals as goal

pub returns-then-is_read_type-clause-count : goal.returns-then-is_read_type-clause-count
returns-then-is_read_type-clause-count c =
    front_counted c.args.string.now c.items_in_payload.result c.in-len1-up.len_at_least (sym c.if-is_read_type.ensures) c.items_in_payload.ensures.count
